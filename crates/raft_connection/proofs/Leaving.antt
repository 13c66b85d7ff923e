-- Answers that leave, one after the other.
use Rattle.std.specs.Prelude.{◌≡◌, ℕ, ◌<◌, length, List, [], ◌∷◌, ◌++◌, Option, Some, None, unwrap_or, refl}
use Rattle.std.proofs.Common.{ap, arith, ◌∙◌}
use Rattle.raft_connection.specs.declared.pending.Pending.{Pending}
use Rattle.raft_connection.specs.declared.pending.Slot.{Slot}
use Rattle.raft_connection.specs.declared.pending.Slot.TheVariants.{Waits, Ready}
use Rattle.raft_connection.specs.Pending.{behind, first_ready_in, ready_bytes, from_waiting}

-- one answer leaves
pub record Leaves (first : ℕ) (slots : List Slot) (bytes : List ℕ) (rest : Pending) : Type 0 where
  pub sent : ready_bytes slots ≡ bytes ++ ready_bytes rest.slots
  pub left : from_waiting first slots ≡ from_waiting rest.first rest.slots
  pub fewer : length rest.slots < length slots

pub leaves : (first : ℕ) (slots : List Slot) (bytes : List ℕ) (rest : Pending) → first_ready_in first slots ≡ Some (bytes, rest) → Leaves first slots bytes rest
leaves first [] bytes rest h = absurd cc
leaves first (Waits w ∷ slots) bytes rest h = absurd cc
leaves first (Ready b ∷ slots) bytes rest h =
    let both = ap (λ (o : Option (List ℕ × Pending)). unwrap_or o (bytes, rest)) h in
    let same : b ≡ bytes = ap (λ (x : List ℕ × Pending). x.0) both in
    let left_is : behind first slots ≡ rest = ap (λ (x : List ℕ × Pending). x.1) both in
    record {
      sent = ap (λ bs. bs ++ ready_bytes slots) same ∙ ap (λ (p : Pending). bytes ++ ready_bytes p.slots) left_is;
      left = ap (λ (p : Pending). from_waiting p.first p.slots) left_is;
      fewer = omega (arith, ap (λ (p : Pending). length p.slots) left_is);
    }

-- none is there
pub stays : (first : ℕ) (slots : List Slot) → first_ready_in first slots ≡ None → (ready_bytes slots ≡ []) × (from_waiting first slots ≡ record { first = first; slots = slots })
stays first [] h = (refl, refl)
stays first (Waits w ∷ slots) h = (refl, refl)
stays first (Ready b ∷ slots) h = absurd cc
