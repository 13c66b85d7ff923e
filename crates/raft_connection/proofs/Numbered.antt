-- A request that is handed out waits, by its number.
use Rattle.std.specs.Prelude.{◌≡◌, ℕ, ◌+◌, ◌-◌, ◌<◌, ◌^◌, ◌%◌, length, List, [], ◌∷◌, ◌++◌, Some, refl}
use Rattle.std.specs.List.{slice_get}
use Rattle.std.proofs.Common.{arith, ap, ◌∙◌}
use Rattle.raft_connection.specs.declared.pending.Slot.{Slot}
use Rattle.raft_connection.specs.declared.pending.Slot.TheVariants as slot
use Rattle.raft_connection.specs.Connection.{waiting_for}
use Rattle.raft_connection.specs.Laws.{HandedOutWaits}
use Rattle.raft_connection.specs.Pending.{waiting_in}

-- a number leads back to its place
goes_round : (first place : ℕ) → first < 2 ^ 64 → place < 2 ^ 64 → ((first + place) % 2 ^ 64 + (2 ^ 64 - first)) % 2 ^ 64 ≡ place
goes_round first place l m = omega arith

-- the last one stands behind the others
last_stands : (slots : List Slot) (s : Slot) → slice_get (slots ++ s ∷ []) (length slots) ≡ Some s
last_stands [] s = refl
last_stands (t ∷ slots) s = last_stands slots s

pub handed_out_waits : HandedOutWaits
handed_out_waits c w l m =
    let slots : List Slot = c.pending.slots in
    ap (λ (n : ℕ). waiting_in (slice_get (slots ++ slot.Waits (waiting_for c w) ∷ []) n)) (goes_round c.pending.first (length slots) l m)
    ∙ ap waiting_in (last_stands slots (slot.Waits (waiting_for c w)))
