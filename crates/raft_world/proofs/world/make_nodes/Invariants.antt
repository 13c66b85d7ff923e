use Rattle.std.proofs.Common.{◌≡◌, map, take}
use Rattle.raft_node.specs.Net.{new_node}
use Rattle.raft_world.proofs.world.make_nodes.Given as goal

abbrev pub invariant-loop-id : goal.invariant-loop-id
invariant-loop-id l = l.nodes.items ≡ map (new_node l.settings) (take l.id-index l.ids)
