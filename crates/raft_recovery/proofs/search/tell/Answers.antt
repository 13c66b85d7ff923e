use Rattle.std.proofs.Common.{◌∙◌, sym}
use Rattle.std.proofs.lemmas.Result.{on_ok_weaker}
use Rattle.raft_recovery.proofs.Plays.{running_tells, stopped_tells}
use Rattle.raft_recovery.proofs.search.tell.Goals as goal

pub returns-in-None : goal.returns-in-None
returns-in-None c = stopped_tells c.args.now c.args.id c.args.world.now c.args.others.now (sym c.commit_of.ensures ∙ c.in-None.is)

pub returns-in-Some : goal.returns-in-Some
returns-in-Some c =
    on_ok_weaker c.tell_all.result
    (running_tells c.args.now c.args.id c.args.world.now c.tell_all.new.world c.args.others.now c.in-Some.commit
    (sym c.commit_of.ensures ∙ c.in-Some.is))
    c.tell_all.ensures
