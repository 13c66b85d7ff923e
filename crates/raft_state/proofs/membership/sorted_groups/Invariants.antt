use Rattle.std.proofs.Common.{◌≡◌, map}
use Rattle.raft_state.specs.Members.{group_of}
use Rattle.raft_state.proofs.membership.sorted_groups.Given as goal

abbrev pub invariant-loop-ids : goal.invariant-loop-ids
invariant-loop-ids g l = l.sorted.items ≡ map (group_of g.NID.Ord.cmp) (map (λ group. group.items) l.yielded)
