-- Replies leave in the order of requests.
use Rattle.std.specs.Prelude.{◌≡◌, ℕ, ◌+◌, ◌-◌, [], ◌∷◌, ◌++◌, slice_set}
use Rattle.std.proofs.Common.{zero, suc, arith, ap, sym, ◌∙◌}
use Rattle.std.proofs.lemmas.List.{append_assoc}
use Rattle.raft_connection.specs.declared.pending.Slot.TheVariants as slot
use Rattle.raft_connection.specs.Laws.{RepliesLeaveInOrder, ready_count, unready}
use Rattle.raft_connection.specs.Pending.{ready_bytes}

pub leave_in_order : RepliesLeaveInOrder
leave_in_order [] place w bytes h = absurd cc
leave_in_order (slot.Waits v ∷ slots) place w bytes h =
    let same : place ≡ place - 0 = omega arith in
    ap (λ (n : ℕ). ready_bytes (slice_set (slot.Waits v ∷ slots) n (slot.Ready bytes))) same
leave_in_order (slot.Ready b ∷ slots) zero w bytes h = absurd cc
leave_in_order (slot.Ready b ∷ slots) (suc place) w bytes h =
    let less : place - ready_count slots ≡ suc place - (1 + ready_count slots) = omega arith in
    ap (λ bs. b ++ bs) (leave_in_order slots place w bytes h)
    ∙ (sym (append_assoc b (ready_bytes slots) _)
    ∙ ap (λ (n : ℕ). (b ++ ready_bytes slots) ++ ready_bytes (slice_set (unready slots) n (slot.Ready bytes))) less)
