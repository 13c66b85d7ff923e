use Rattle.std.proofs.Common.{◌+◌, sym}
use Rattle.std.proofs.lemmas.Result.{on_ok_weaker}
use Rattle.raft_recovery.proofs.Plays.{running_stands, stopped_stands}
use Rattle.raft_recovery.proofs.search.stand.Goals as goal

pub returns-in_default : goal.returns-in_default
returns-in_default c = stopped_stands c.args.now c.args.id c.args.world.now (c.args.term + 1) (sym c.in_default.ensures)

pub returns : goal.returns
returns c =
    on_ok_weaker c.time_out.result
    (running_stands c.args.now c.args.id c.args.world.now c.play.new.world c.time_out.new.world (c.args.term + 1) c.in-Some.ballot
    (sym c.in-Some.ensures) c.in_ok-play.ensures)
    c.time_out.ensures
