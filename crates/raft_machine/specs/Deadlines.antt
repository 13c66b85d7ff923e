-- Which deadlines are noted, and what a change leaves of them.
use Rattle.std.specs.Prelude.{◌≡◌, ℕ, ◌≤◌, Bool, true, List, [], ◌∷◌, Option, Some}
use Rattle.std.specs.List.{list_any}
use Rattle.std.specs.Ordering.{nat_cmp, ordering_then}
use Rattle.std.specs.declared.cmp.Ordering.{Ordering}
use Rattle.std.specs.Cmp.Lexicographic.{slice_cmp}
use Rattle.std.specs.Global.{Vec}
use Rattle.std.specs.BTreeSet.{BTreeSet}
use Rattle.std.specs.BTreeMap.{is_at}

abbrev pub Noted : Type 0
Noted = BTreeSet (ℕ × Vec ℕ)

-- how a moment and a key compare to a deadline
abbrev pub against : ℕ → List ℕ → ℕ × Vec ℕ → Ordering
against t k x = ordering_then (nat_cmp t x.0) (slice_cmp nat_cmp k x.1.items)

-- whether it is noted that the key k expires at t
abbrev pub has : Noted → ℕ → List ℕ → Bool
has deadlines t k = list_any (is_at (against t k)) deadlines.keys

abbrev pub KeepsAll : Noted → Noted → Type 0
KeepsAll old new = (t : ℕ) (k : List ℕ) → has old t k ≡ true → has new t k ≡ true

-- all but the key l at u
abbrev pub KeepsAllBut : Noted → Noted → ℕ → List ℕ → Type 0
KeepsAllBut old new u l = (t : ℕ) (k : List ℕ) → ¬ ((t ≡ u) × (k ≡ l)) → has old t k ≡ true → has new t k ≡ true

-- the first of the deadlines isn't after a moment
abbrev pub IsDue : List (ℕ × Vec ℕ) → ℕ → Type 0
IsDue [] now = ⊥
IsDue (x ∷ xs) now = x.0 ≤ now

-- a key's deadline, if it has one, is noted
abbrev pub IsNoted : Noted → Option ℕ → List ℕ → Type 0
IsNoted deadlines expires k = (t : ℕ) → expires ≡ Some t → has deadlines t k ≡ true
