use Rattle.raft_cluster.specs.Clusters.{Leaves}
use Rattle.raft_cluster.proofs.cluster.release_all.Given as goal

abbrev pub invariant-outputs : goal.invariant-outputs
invariant-outputs g l = Leaves l.fn.node l.yielded l.fn.network l.fn.told l.network l.told
