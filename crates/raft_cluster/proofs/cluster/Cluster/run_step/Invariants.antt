use Rattle.raft_cluster.specs.Clusters.{Holds}
use Rattle.raft_cluster.proofs.cluster.Cluster.run_step.Given as goal

abbrev pub invariant-ticks : goal.invariant-ticks
invariant-ticks g l = Holds g.M.Machine.application g.M.Machine.codec l.fn.self → Holds g.M.Machine.application g.M.Machine.codec l.self

abbrev pub invariant-rounds : goal.invariant-rounds
invariant-rounds g l = Holds g.M.Machine.application g.M.Machine.codec l.fn.self → Holds g.M.Machine.application g.M.Machine.codec l.self
