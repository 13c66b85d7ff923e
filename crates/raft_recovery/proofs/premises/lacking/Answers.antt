use Rattle.raft_recovery.proofs.Electing.{listed_here}
use Rattle.raft_recovery.proofs.premises.lacking.Goals as goal

pub returns-then-lacks : goal.returns-then-lacks
returns-then-lacks c = (listed_here c.args.up.now c.loop-other.other-index c.loop-other-test.true, c.in_ok-lacks.ensures c.if-lacks.true)
