use Rattle.std.proofs.Common.{length}
use Rattle.raft_recovery.proofs.judge.+greatest_term.Given as goal

abbrev pub decreases-greatest_term : goal.decreases-greatest_term
decreases-greatest_term l = length l.nodes.now
