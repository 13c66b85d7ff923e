use Rattle.std.proofs.Common.{◌≡◌, filter, take}
use Rattle.std.specs.Ordering.{nat_cmp}
use Rattle.raft_state.specs.Members.{contains}
use Rattle.raft_recovery.proofs.judge.members_among.Given as goal

abbrev pub invariant-loop-id : goal.invariant-loop-id
invariant-loop-id l = l.ids.items ≡ filter (contains nat_cmp l.membership) (take l.id-index l.up)
