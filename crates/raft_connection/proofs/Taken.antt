-- A request that is answered waits no more, also once answers were taken.
use Rattle.std.specs.Prelude.{◌≡◌, ℕ, ◌+◌, ◌-◌, ◌<◌, ◌≤◌, ◌^◌, ◌%◌, length, List, [], ◌∷◌, None, refl}
use Rattle.std.specs.List.{slice_get}
use Rattle.std.proofs.Common.{zero, suc, arith, ap, ◌∙◌, inl, inr}
use Rattle.std.proofs.lemmas.Bool.{cases_lt}
use Rattle.std.proofs.lemmas.Option.{slice_get_past}
use Rattle.raft_connection.specs.declared.pending.Slot.{Slot}
use Rattle.raft_connection.specs.declared.pending.Slot.TheVariants as slot
use Rattle.raft_connection.specs.Laws.{ready_count, unready}
use Rattle.raft_connection.specs.Pending.{from_waiting, waiting_in}

-- the requests that are left, and the number of the first of them
left_slots : (first : ℕ) (slots : List Slot) → (from_waiting first slots).slots ≡ unready slots
left_slots first [] = refl
left_slots first (slot.Waits w ∷ slots) = refl
left_slots first (slot.Ready bytes ∷ slots) = left_slots ((first + 1) % 2 ^ 64) slots

one_further : (first k : ℕ) → ((first + 1) % 2 ^ 64 + k) % 2 ^ 64 ≡ (first + (1 + k)) % 2 ^ 64
one_further first k = omega arith

left_first : (first : ℕ) (slots : List Slot) → first < 2 ^ 64 → (from_waiting first slots).first ≡ (first + ready_count slots) % 2 ^ 64
left_first first [] l = omega arith
left_first first (slot.Waits w ∷ slots) l = omega arith
left_first first (slot.Ready bytes ∷ slots) l = left_first ((first + 1) % 2 ^ 64) slots (omega arith) ∙ one_further first (ready_count slots)

-- where a request stands then
left_get : (slots : List Slot) (place : ℕ) → ready_count slots ≤ place → slice_get (unready slots) (place - ready_count slots) ≡ slice_get slots place
left_get [] place l = refl
left_get (slot.Waits w ∷ slots) place l = ap (slice_get (slot.Waits w ∷ slots)) (omega arith)
left_get (slot.Ready bytes ∷ slots) zero l = absurd (omega (arith, l))
left_get (slot.Ready bytes ∷ slots) (suc place) l =
    let less : suc place - (1 + ready_count slots) ≡ place - ready_count slots = omega arith in
    ap (slice_get (unready slots)) less ∙ left_get slots place (omega (arith, l))

fewer : (slots : List Slot) → length (unready slots) ≤ length slots
fewer [] = omega arith
fewer (slot.Waits w ∷ slots) = omega arith
fewer (slot.Ready bytes ∷ slots) = omega (arith, fewer slots)

count_within : (slots : List Slot) → ready_count slots ≤ length slots
count_within [] = omega arith
count_within (slot.Waits w ∷ slots) = omega arith
count_within (slot.Ready bytes ∷ slots) = omega (arith, count_within slots)

-- its place gets smaller by as many requests as were taken,
near : (number first k : ℕ) → number < 2 ^ 64 → first < 2 ^ 64 → k < 2 ^ 64 → k ≤ (number + (2 ^ 64 - first)) % 2 ^ 64
    → (number + (2 ^ 64 - (first + k) % 2 ^ 64)) % 2 ^ 64 ≡ (number + (2 ^ 64 - first)) % 2 ^ 64 - k
near number first k l m n h = omega arith

-- or goes round
far : (number first k : ℕ) → number < 2 ^ 64 → first < 2 ^ 64 → k < 2 ^ 64 → (number + (2 ^ 64 - first)) % 2 ^ 64 < k
    → 2 ^ 64 ≤ (number + (2 ^ 64 - (first + k) % 2 ^ 64)) % 2 ^ 64 + k
far number first k l m n h = omega arith

pub none_waits : (first : ℕ) (slots : List Slot) (number : ℕ) → first < 2 ^ 64 → number < 2 ^ 64 → length slots ≤ 2 ^ 63
    → waiting_in (slice_get slots ((number + (2 ^ 64 - first)) % 2 ^ 64)) ≡ None
    → waiting_in (slice_get (from_waiting first slots).slots ((number + (2 ^ 64 - (from_waiting first slots).first)) % 2 ^ 64)) ≡ None
none_waits first slots number l m small none =
    let k : ℕ = ready_count slots in
    let before : ℕ = (number + (2 ^ 64 - first)) % 2 ^ 64 in
    let place : ℕ = (number + (2 ^ 64 - (first + k) % 2 ^ 64)) % 2 ^ 64 in
    let bound : k < 2 ^ 64 = omega (arith, small, count_within slots) in
    ap (λ (ss : List Slot). waiting_in (slice_get ss ((number + (2 ^ 64 - (from_waiting first slots).first)) % 2 ^ 64))) (left_slots first slots)
    ∙ (ap (λ (f : ℕ). waiting_in (slice_get (unready slots) ((number + (2 ^ 64 - f)) % 2 ^ 64))) (left_first first slots l)
    ∙ elim (cases_lt before k) [
      | inl gone ↦ ap waiting_in (slice_get_past (unready slots) place (omega (arith, far number first k m l bound gone, small, fewer slots, count_within slots)))
      | inr here ↦ ap (λ (n : ℕ). waiting_in (slice_get (unready slots) n)) (near number first k m l bound here) ∙ (ap waiting_in (left_get slots before here) ∙ none)
    ])
