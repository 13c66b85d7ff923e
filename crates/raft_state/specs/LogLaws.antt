-- Lemmas on what a log's ids are after each change. Nothing here has to be believed but the definition `IsRun`.
use Rattle.std.specs.Prelude.{◌≡◌, ℕ, suc, ◌+◌, ◌==◌, nat_lt, not, Bool, true, false, List, [], ◌∷◌, ◌++◌, Option, None, Some, if◌then◌else◌, refl, slice_get, filter, find}
use Rattle.std.proofs.Common.{ap, sym, ◌∙◌, cond, arith, zero}
use Rattle.std.specs.Option.{option_or}
use Rattle.std.proofs.lemmas.Bool.Decides.{nat_tests}
use Rattle.raft_state.specs.declared.ids.LogId.{LogId}
use Rattle.raft_state.specs.Log.{at, below, from}

-- equal indexes pass the same tests
alike : (a i k : ℕ) → (a == i) ≡ true → nat_lt a k ≡ nat_lt i k
alike a i k e = let q : a ≡ i = grind (arith, nat_tests) in ap (λ n. nat_lt n k) q

-- one test's elements are all, or none, of another's
module _ {X : Type 0} (p q : X → Bool) (b : Bool) (same : (x : X) → p x ≡ true → q x ≡ b) where
  go : (x : X) (xs : List X) → find p (filter q xs) ≡ cond b (find p xs) None → (s t : Bool) → p x ≡ s → q x ≡ t → find p (cond t (x ∷ filter q xs) (filter q xs)) ≡ cond b (cond s (Some x) (find p xs)) None
  go x xs rest true true e f = let h : b ≡ true = sym (same x e) ∙ f in rw (e, h) refl
  go x xs rest true false e f = let h : b ≡ false = sym (same x e) ∙ f in rest ∙ rw h refl
  go x xs rest false true e f = rw e rest
  go x xs rest false false e f = rest

  find-filter : (xs : List X) → find p (filter q xs) ≡ cond b (find p xs) None
  find-filter [] = elim b as (λ c. ◌≡◌ {A = Option X} None (cond c None None)) [ true ↦ refl | false ↦ refl ]
  find-filter (x ∷ xs) = go x xs (find-filter xs) (p x) (q x) refl refl

module _ {NID : Type 0} where
  -- the ids on both sides of an append
  pub at-append : (xs ys : List (LogId NID)) (i : ℕ) → at (xs ++ ys) i ≡ option_or (at xs i) (at ys i)
  at-append [] ys i = refl
  at-append (x ∷ xs) ys i =
      elim (x.index == i) as (λ b. cond b (Some x) (at (xs ++ ys) i) ≡ option_or (cond b (Some x) (at xs i)) (at ys i)) [ true ↦ refl | false ↦ at-append xs ys i ]

  -- below an index the ids stay, and from it on there are none
  pub at-below : (k : ℕ) (ids : List (LogId NID)) (i : ℕ) → at (below k ids) i ≡ (if nat_lt i k then at ids i else None)
  at-below k ids i = find-filter (λ x. x.index == i) (λ x. nat_lt x.index k) (nat_lt i k) (λ x. alike x.index i k) ids

  -- from an index on the ids stay, and below it there are none
  pub at-from : (k : ℕ) (ids : List (LogId NID)) (i : ℕ) → at (from k ids) i ≡ (if not (nat_lt i k) then at ids i else None)
  at-from k ids i = find-filter (λ x. x.index == i) (λ x. not (nat_lt x.index k)) (not (nat_lt i k)) (λ x e. ap not (alike x.index i k e)) ids

-- ids with consecutive indexes, from n on
abbrev pub IsRun : {NID : Type 0} → ℕ → List (LogId NID) → Type 0
IsRun n [] = Unit {0}
IsRun n (x ∷ ids) = (x.index ≡ n) × IsRun (n + 1) ids

eq_self : (a n : ℕ) → a ≡ n → (a == n + 0) ≡ true
eq_self a n e = grind (arith, nat_tests)

not_next : (a n k : ℕ) → a ≡ n → (a == n + suc k) ≡ false
not_next a n k e = grind (arith, nat_tests)

step : (n k : ℕ) → n + suc k ≡ (n + 1) + k
step n k = omega arith

module _ {NID : Type 0} where
  -- the id at an index is the one at its place
  pub at-run : (n k : ℕ) (ids : List (LogId NID)) → IsRun n ids → at ids (n + k) ≡ slice_get ids k
  at-run n k [] r = refl
  at-run n zero (x ∷ ids) r = ap (λ b. cond b (Some x) (at ids (n + 0))) (eq_self x.index n r.0)
  at-run n (suc k) (x ∷ ids) r =
      ap (λ b. cond b (Some x) (at ids (n + suc k))) (not_next x.index n k r.0) ∙ ap (at ids) (step n k) ∙ at-run (n + 1) k ids r.1
