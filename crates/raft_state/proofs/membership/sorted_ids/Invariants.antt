use Rattle.std.proofs.Common.{◌≡◌}
use Rattle.std.specs.BTreeSet.{IsOrdered}
use Rattle.raft_state.specs.Members.{group_of}
use Rattle.raft_state.proofs.membership.sorted_ids.Given as goal

abbrev pub invariant-loop-id : goal.invariant-loop-id
invariant-loop-id g l = (l.placed.keys ≡ group_of g.NID.Ord.cmp l.yielded) × IsOrdered g.NID.Ord.cmp l.placed
