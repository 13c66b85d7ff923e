use Rattle.std.proofs.Common.{◌≡◌}
use Rattle.raft_cluster.proofs.machine.prepare.Given as goal

abbrev pub invariant-loop : goal.invariant-loop
invariant-loop g l = l.core ≡ l.fn.core
