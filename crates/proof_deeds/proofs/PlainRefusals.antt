-- Refusals that no message from a reached world meets: of a vote that isn't committed or is the node's, and of what
-- doesn't fit what is held.
use Rattle.std.proofs.Common.{ℕ, ◌≡◌, ◌≢◌, ◌⊎◌, inl, inr, ⊎_elim, Bool, true, false, not, List, [], ◌∷◌, arith, refl, ap, ◌∙◌, Option, None, Some, subst}
use Rattle.std.specs.Prelude.{IfSome, if◌then◌else◌, ◌&&◌}
use Rattle.std.specs.List.{AllByRecursion}
use Rattle.std.specs.Option.{option_or}
use Rattle.std.specs.Ordering.{is_eq, nat_cmp}
use Rattle.std.proofs.lemmas.Bool.Decides.{nat_tests}
use Rattle.raft_node.specs.raft_error.Number.{first_refusal, number_of}
use Rattle.raft_node.specs.raft_error.declared.error.EngineError.{EngineError}
use Rattle.raft_node.specs.raft_store.Types.{EngineView}
use Rattle.raft_node.specs.Safety.{IsOtherRefusal}
use Rattle.raft_node.specs.raft_calls.Deliveries.{answered}
use Rattle.raft_node.specs.raft_error.declared.error.EngineError.TheVariants.{IndexEnd}

abbrev pub IsPlain : Option (EngineError ℕ (Unit {0})) → Type 0
IsPlain o = IfSome o (λ e. IsOtherRefusal (number_of e))

-- a test fails, or what it refuses with is plain
abbrev pub FailsOrPlain : Bool × EngineError ℕ (Unit {0}) → Type 0
FailsOrPlain r = (r.0 ≡ false) ⊎ IsOtherRefusal (number_of r.1)

pub plain_first : (rs : List (Bool × EngineError ℕ (Unit {0}))) → AllByRecursion FailsOrPlain rs → IsPlain (first_refusal rs)
plain_first [] h = tt
plain_first (r ∷ rs) h = go r.0 h.0 (plain_first rs h.1) where
  go : (b : Bool) → (b ≡ false) ⊎ IsOtherRefusal (number_of r.1) → IsPlain (first_refusal rs) → IsPlain (if b then Some r.1 else first_refusal rs)
  go false f k = k
  go true f k = ⊎_elim (λ e. cc) (λ p. p) f

pub plain_or : (a b : Option (EngineError ℕ (Unit {0}))) → IsPlain a → IsPlain b → IsPlain (option_or a b)
plain_or None b h k = k
plain_or (Some x) b h k = h

pub plain_none : (o : Option (EngineError ℕ (Unit {0}))) → o ≡ None → IsPlain o
plain_none None e = tt
plain_none (Some x) e = cc

-- the number of a call's refusal
pub plain_answered : (o : Option (EngineError ℕ (Unit {0}))) (e after : EngineView) → IsPlain o → IfSome (answered o e after).0 IsOtherRefusal
plain_answered None e after h = tt
plain_answered (Some x) e after h = h

-- all tests fail
pub none_refused : {E : Type 0} (rs : List (Bool × E)) → AllByRecursion (λ r. r.0 ≡ false) rs → first_refusal rs ≡ None
none_refused [] h = refl
none_refused (r ∷ rs) h = ap (λ b. if b then Some r.1 else first_refusal rs) h.0 ∙ none_refused rs h.1

-- all but the first
pub first_or_none : {E : Type 0} (b : Bool) (x : E) (rs : List (Bool × E)) → AllByRecursion (λ r. r.0 ≡ false) rs → (first_refusal ((b, x) ∷ rs) ≡ None) ⊎ (first_refusal ((b, x) ∷ rs) ≡ Some x)
first_or_none true x rs h = inr refl
first_or_none false x rs h = inl (none_refused rs h)

pub nodes_apart : (a b : ℕ) → a ≢ b → is_eq (nat_cmp a b) ≡ false
nodes_apart a b h = grind (arith, nat_tests)

pub and_low : (a b : Bool) → (a ≡ true → b ≡ false) → (a && b) ≡ false
and_low true b f = f refl
and_low false b f = refl

pub pick_low : (a b : Bool) → (a ≡ true → b ≡ false) → (a ≡ false → b ≡ true) → (if a then b else not b) ≡ false
pick_low true b f g = f refl
pick_low false b f g = ap not (g refl)

-- none, or the end of indexes
pub ends : (x : Option (EngineError ℕ (Unit {0}))) → (x ≡ None) ⊎ (x ≡ Some IndexEnd) → IsPlain x
ends None h = tt
ends (Some e) h = ⊎_elim (λ q. cc) (λ q. let z : IndexEnd ≡ e = cc in subst (λ y. IsPlain (Some y)) z (inl (omega arith))) h
