use Rattle.raft_cluster.specs.Clusters.{Holds}
use Rattle.raft_cluster.proofs.cluster.Cluster.run.Given as goal

abbrev pub invariant-steps : goal.invariant-steps
invariant-steps g l = Holds g.M.Machine.application g.M.Machine.codec l.fn.self → Holds g.M.Machine.application g.M.Machine.codec l.self
