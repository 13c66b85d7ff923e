use Rattle.std.proofs.Common.{◌≡◌, map, take}
use Rattle.raft_wire.proofs.state.copy_groups.Given as goal

abbrev pub invariant-loop-group : goal.invariant-loop-group
invariant-loop-group l = map (λ group. group.items) l.copied.items ≡ take l.group-index l.groups
