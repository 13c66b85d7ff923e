use Rattle.raft_recovery.proofs.Played.{played_one}
use Rattle.raft_recovery.proofs.scratch.apply.Goals as goal

pub returns : goal.returns
returns c = played_one c.args.world.now c.apply.new.self c.args.event c.in_ok-apply.ensures.does.2
