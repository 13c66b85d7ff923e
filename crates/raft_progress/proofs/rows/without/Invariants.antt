use Rattle.std.proofs.Common.{◌≡◌, filter, not, take}
use Rattle.raft_state.specs.Sorted.{has_id}
use Rattle.raft_progress.proofs.rows.without.Given as goal

abbrev pub invariant-loop-id : goal.invariant-loop-id
invariant-loop-id g l = l.left.items ≡ filter (λ id. not (has_id g.ID.Ord.cmp l.others id)) (take l.id-index l.ids)
