use Rattle.std.proofs.Common.{◌∙◌, sym}
use Rattle.std.proofs.lemmas.Result.{on_ok_weaker}
use Rattle.raft_recovery.proofs.Plays.{running_votes, stopped_votes}
use Rattle.raft_recovery.proofs.search.ask_votes.Goals as goal

pub returns-in-None : goal.returns-in-None
returns-in-None c = stopped_votes c.args.now c.args.id c.args.world.now c.args.voters.now (sym c.ballot_of.ensures ∙ c.in-None.is)

pub returns-in-Some : goal.returns-in-Some
returns-in-Some c =
    on_ok_weaker c.collect.result
    (running_votes c.args.now c.args.id c.args.world.now c.collect.new.world c.args.voters.now c.in-Some.ballot
    (sym c.ballot_of.ensures ∙ c.in-Some.is))
    c.collect.ensures
