use Rattle.raft_cluster.specs.Clusters.{Holds}
use Rattle.raft_cluster.proofs.cluster.Cluster.deliver_all.Given as goal

abbrev pub invariant-frames : goal.invariant-frames
invariant-frames g l = Holds g.M.Machine.application g.M.Machine.codec l.fn.self → Holds g.M.Machine.application g.M.Machine.codec l.self
