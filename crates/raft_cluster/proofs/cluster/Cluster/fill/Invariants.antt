use Rattle.raft_cluster.specs.Clusters.{Holds}
use Rattle.raft_cluster.proofs.cluster.Cluster.fill.Given as goal

abbrev pub invariant-requests : goal.invariant-requests
invariant-requests g l = Holds g.M.Machine.application g.M.Machine.codec l.fn.self → Holds g.M.Machine.application g.M.Machine.codec l.self
