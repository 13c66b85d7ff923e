-- What stands in lists.
use Rattle.std.proofs.Common.{zero, suc, ◌≡◌, ◌⊎◌, inl, inr, List, [], ◌∷◌, ◌++◌, arith, refl}
use Rattle.std.specs.Prelude.{Contains}
use Rattle.std.specs.List.{AllByRecursion}
use Rattle.std.proofs.lemmas.List.Elements.{All-contains, All-from_recursion}

-- an element, by recursion
abbrev pub Has : {X : Type 0} → List X → X → Type 0
Has [] x = ⊥
Has (y ∷ ys) x = (y ≡ x) ⊎ Has ys x

module _ {X : Type 0} where
  pub has : (xs : List X) (x : X) → Contains xs x → Has xs x
  has [] x c = absurd (omega (arith, c.1))
  has (y ∷ ys) x (zero, l, e) = inl e
  has (y ∷ ys) x (suc k, l, e) = inr (has ys x (k, omega (arith, l), e))

  pub contains : (xs : List X) (x : X) → Has xs x → Contains xs x
  contains [] x h = absurd h
  contains (y ∷ ys) x (inl e) = (0, omega arith, e)
  contains (y ∷ ys) x (inr h) = let c = contains ys x h in (suc c.0, (let l = c.1 in omega (arith, l)), c.2)

  pub element : (P : X → Type 0) (xs : List X) (x : X) → AllByRecursion P xs → Has xs x → P x
  element P xs x a h = All-contains P xs x (All-from_recursion P xs a) (contains xs x h)

  pub each : (P : X → Type 0) (xs : List X) → ((x : X) → Has xs x → P x) → AllByRecursion P xs
  each P [] f = tt
  each P (x ∷ xs) f = (f x (inl refl), each P xs (λ y h. f y (inr h)))

  pub has_left : (xs ys : List X) (x : X) → Has xs x → Has (xs ++ ys) x
  has_left [] ys x h = absurd h
  has_left (z ∷ xs) ys x (inl e) = inl e
  has_left (z ∷ xs) ys x (inr h) = inr (has_left xs ys x h)

  pub has_right : (xs ys : List X) (x : X) → Has ys x → Has (xs ++ ys) x
  has_right [] ys x h = h
  has_right (z ∷ xs) ys x h = inr (has_right xs ys x h)

  pub has_either : (xs ys : List X) (x : X) → Has (xs ++ ys) x → Has xs x ⊎ Has ys x
  has_either [] ys x h = inr h
  has_either (z ∷ xs) ys x (inl e) = inl (inl e)
  has_either (z ∷ xs) ys x (inr h) = elim (has_either xs ys x h) [ inl a ↦ inl (inr a) | inr b ↦ inr b ]
