-- Two quorums of groups that share one meet.
use Rattle.std.proofs.Common.{ℕ, suc, ◌+◌, ◌<◌, ◌≡◌, inl, ⊎_elim, Bool, true, false, cond, List, [], ◌∷◌, length, arith, refl, sym, subst}
use Rattle.proof_agreement.specs.Machine.{Setup, IsQuorum, IsMajority, IsMajorityOfEach, ShareGroup, IncludesGroup, Includes, count}

-- a node of both
pub record Meet (p q : ℕ → Bool) : Type 0 where
  pub node : ℕ
  pub left : p node ≡ true
  pub right : q node ≡ true

meet_more : (p q : ℕ → Bool) (x : ℕ) (g : List ℕ) (b c : Bool) → p x ≡ b → q x ≡ c → suc (length g) < cond b (suc (count p g)) (count p g) + cond c (suc (count q g)) (count q g) → (length g < count p g + count q g → Meet p q) → Meet p q
meet_more p q x g true true e f h ih = record { node = x; left = e; right = f }
meet_more p q x g true false e f h ih = ih (omega arith)
meet_more p q x g false true e f h ih = ih (omega arith)
meet_more p q x g false false e f h ih = ih (omega arith)

meet_in : (p q : ℕ → Bool) (g : List ℕ) → length g < count p g + count q g → Meet p q
meet_in p q [] h = absurd (omega arith)
meet_in p q (x ∷ g) h = meet_more p q x g (p x) (q x) refl refl h (meet_in p q g)

majority_in : (q : ℕ → Bool) (gs : List (List ℕ)) (g : List ℕ) → IsMajorityOfEach q gs → Includes gs g → IsMajority q g
majority_in q [] g m h = elim h [ ]
majority_in q (x ∷ gs) g m h = ⊎_elim (λ e. subst (λ y. IsMajority q y) e m.0) (λ h'. majority_in q gs g m.1 h') h

majority_of : {A : Type 0} (s : Setup A) (x : A) (q : ℕ → Bool) (g : List ℕ) → IsQuorum s x q → IncludesGroup s x g → IsMajority q g
majority_of s x q g m h = ⊎_elim (λ e. subst (λ y. IsMajority q y) e m.first) (λ h'. majority_in q (s.other_groups x) g m.rest h') h

pub meet : {A : Type 0} (s : Setup A) (x y : A) (p q : ℕ → Bool) → ShareGroup s x y → IsQuorum s x p → IsQuorum s y q → Meet p q
meet s x y p q h a b = meet_in p q h.group (let l : IsMajority p h.group = majority_of s x p h.group a h.left in let r : IsMajority q h.group = majority_of s y q h.group b h.right in omega (arith, l, r))

pub ShareGroup-sym : {A : Type 0} {s : Setup A} {x y : A} → ShareGroup s x y → ShareGroup s y x
ShareGroup-sym h = record { group = h.group; left = h.right; right = h.left }

-- loads with the same first group share it
pub share_first : {A : Type 0} (s : Setup A) (x y : A) → s.first_group x ≡ s.first_group y → ShareGroup s x y
share_first s x y e = record { group = s.first_group x; left = inl refl; right = inl (sym e) }
