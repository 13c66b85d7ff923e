use Rattle.raft_cluster.specs.Clusters.{Holds}
use Rattle.raft_cluster.proofs.cluster.Cluster.settle.Given as goal

abbrev pub invariant-servers : goal.invariant-servers
invariant-servers g l = Holds g.M.Machine.application g.M.Machine.codec l.fn.self → Holds g.M.Machine.application g.M.Machine.codec l.self
