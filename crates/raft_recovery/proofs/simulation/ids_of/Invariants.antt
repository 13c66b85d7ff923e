use Rattle.std.proofs.Common.{◌≡◌, map, take}
use Rattle.raft_node.specs.Net.{NodeView}
use Rattle.raft_recovery.proofs.simulation.ids_of.Given as goal

abbrev pub invariant-loop-node : goal.invariant-loop-node
invariant-loop-node l = l.ids.items ≡ map (λ (N : NodeView). N.id) (take l.node-index l.nodes)
