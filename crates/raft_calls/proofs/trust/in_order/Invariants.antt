use Rattle.std.proofs.Common.{◌≡◌, None}
use Rattle.std.specs.VecDeque.Iter.{deque_iter_rest}
use Rattle.raft_calls.specs.Trust.{in_order}
use Rattle.raft_calls.proofs.trust.in_order.Given as goal

-- what is left decides
abbrev pub invariant-loop-id : goal.invariant-loop-id
invariant-loop-id l = in_order l.leader l.last l.index (deque_iter_rest l.id-iterator) ≡ in_order l.leader None l.first l.ids
