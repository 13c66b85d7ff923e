use Rattle.std.specs.Prelude.{take}
use Rattle.raft_cluster.specs.Clusters.{AreNew}
use Rattle.raft_cluster.proofs.cluster.make_machines.Given as goal

abbrev pub invariant-loop-id : goal.invariant-loop-id
invariant-loop-id g l = AreNew (take l.id-index l.ids) l.machines.items
