use Rattle.std.proofs.Common.{◌≡◌, map, take}
use Rattle.raft_calls.proofs.membership.ids_of.Given as goal

-- the groups so far
abbrev pub invariant-loop-group : goal.invariant-loop-group
invariant-loop-group l = map (λ group. group.items) l.copied.items ≡ take l.group-index l.groups
