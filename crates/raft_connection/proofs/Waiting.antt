-- How many bytes the answers have that are there.
use Rattle.std.specs.Prelude.{◌≡◌, ℕ, ◌+◌, drop, List, [], ◌∷◌, refl}
use Rattle.std.specs.List.{slice_get}
use Rattle.std.proofs.Common.{zero, suc, arith, ap, subst}
use Rattle.std.proofs.lemmas.List.{drop_all}
use Rattle.raft_connection.specs.declared.pending.Slot.{Slot}
use Rattle.raft_connection.specs.Pending.{ready_len, ready_total}

from_place : (slots : List Slot) (place : ℕ) → ready_total (drop place slots) ≡ ready_len (slice_get slots place) + ready_total (drop (suc place) slots)
from_place [] place =
    let here : ready_total (drop {A = Slot} place []) ≡ 0 = ap ready_total (drop_all {X = Slot} place [] (omega arith)) in
    let behind : ready_total (drop {A = Slot} (suc place) []) ≡ 0 = ap ready_total (drop_all {X = Slot} (suc place) [] (omega arith)) in
    omega (arith, here, behind)
from_place (slot ∷ slots) zero = refl
from_place (slot ∷ slots) (suc place) = from_place slots place

-- those from a place on: the one there, and those behind it
pub total_from : (slots : List Slot) (place : ℕ) → ready_total (drop place slots) ≡ ready_len (slice_get slots place) + ready_total (drop (place + 1) slots)
total_from slots place =
    let next : suc place ≡ place + 1 = omega arith in
    subst (λ n. ready_total (drop place slots) ≡ ready_len (slice_get slots place) + ready_total (drop n slots)) next (from_place slots place)
