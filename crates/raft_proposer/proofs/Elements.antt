-- Elements of lists.
use Rattle.std.specs.Prelude.{◌≡◌, ◌⊎◌, Bool, true, false, List, [], ◌∷◌, refl, filter, Contains}
use Rattle.std.specs.List.{AllByRecursion}
use Rattle.std.proofs.Common.{ap, cond, arith, zero, suc, inl, inr, ⊎_elim, subst}

-- an element of a list
abbrev pub In : {K : Type 0} → K → List K → Type 0
In k [] = ⊥
In k (x ∷ xs) = (x ≡ k) ⊎ In k xs

module _ {K : Type 0} where
  again : (p : K → Bool) (x : K) (xs : List K) (b : Bool) → p x ≡ b → filter p (filter p xs) ≡ filter p xs → filter p (cond b (x ∷ filter p xs) (filter p xs)) ≡ cond b (x ∷ filter p xs) (filter p xs)
  again p x xs true e h = rw e (ap (λ ys. x ∷ ys) h)
  again p x xs false e h = h

  -- what passes a test passes it again
  pub filter_again : (p : K → Bool) (xs : List K) → filter p (filter p xs) ≡ filter p xs
  filter_again p [] = refl
  filter_again p (x ∷ xs) = again p x xs (p x) refl (filter_again p xs)

  pub contains_in : (xs : List K) (k : K) → Contains xs k → In k xs
  contains_in [] k h = absurd (omega (arith, h.1))
  contains_in (x ∷ xs) k (zero, l, e) = inl e
  contains_in (x ∷ xs) k (suc i, l, e) = inr (contains_in xs k (i, omega (arith, l), e))

  -- what holds of each element holds of one
  pub each_in : (P : K → Type 0) (k : K) (xs : List K) → AllByRecursion P xs → In k xs → P k
  each_in P k [] a h = absurd h
  each_in P k (x ∷ xs) a h = ⊎_elim (λ (q : x ≡ k). subst P q a.0) (λ (r : In k xs). each_in P k xs a.1 r) h
