-- Where a byte stands first.
use Rattle.std.specs.Prelude.{ℕ, ◌≡◌, ◌<◌, ◌≤◌, ◌+◌, ◌-◌, Bool, not, true, false, List, [], ◌∷◌, ◌++◌, length, take, position, Some, refl}
use Rattle.std.specs.List.{position_or_len}
use Rattle.std.proofs.Common.{suc, zero, cond, arith, ap, ◌∙◌}

module _ (p : ℕ → Bool) where
  -- in a list that goes on
  pub front_place : (xs ys : List ℕ) → position_or_len p xs < length xs → position_or_len p (xs ++ ys) ≡ position_or_len p xs
  front_place [] ys h = absurd (omega (arith, h))
  front_place (x ∷ xs) ys h = go (p x) h (front_place xs ys)
    where
      go : (b : Bool) → cond (not b) (1 + position_or_len p xs) 0 < suc (length xs) → (position_or_len p xs < length xs → position_or_len p (xs ++ ys) ≡ position_or_len p xs)
          → cond (not b) (1 + position_or_len p (xs ++ ys)) 0 ≡ cond (not b) (1 + position_or_len p xs) 0
      go true l f = refl
      go false l f = ap (λ n. 1 + n) (f (omega (arith, l)))

  -- behind a list that has none
  pub later_place : (xs ys : List ℕ) → position_or_len p xs ≡ length xs → position_or_len p (xs ++ ys) ≡ length xs + position_or_len p ys
  later_place [] ys h = omega arith
  later_place (x ∷ xs) ys h = go (p x) h (later_place xs ys)
    where
      go : (b : Bool) → cond (not b) (1 + position_or_len p xs) 0 ≡ suc (length xs) → (position_or_len p xs ≡ length xs → position_or_len p (xs ++ ys) ≡ length xs + position_or_len p ys)
          → cond (not b) (1 + position_or_len p (xs ++ ys)) 0 ≡ suc (length xs) + position_or_len p ys
      go true l f = absurd (omega (arith, l))
      go false l f = ap (λ n. 1 + n) (f (omega (arith, l))) ∙ omega arith

  pub place_within : (xs : List ℕ) (i : ℕ) → position p xs ≡ Some i → (i ≡ position_or_len p xs) × (i < length xs)
  place_within xs i h = grind arith

pub take_past : (xs ys : List ℕ) (n : ℕ) → length xs ≤ n → take n (xs ++ ys) ≡ xs ++ take (n - length xs) ys
take_past [] ys n h = ap (λ k. take k ys) (omega arith)
take_past (x ∷ xs) ys zero h = absurd (omega (arith, h))
take_past (x ∷ xs) ys (suc n) h =
    let less : n - length xs ≡ suc n - suc (length xs) = omega arith in
    ap (λ zs. x ∷ zs) (take_past xs ys n (omega (arith, h)) ∙ ap (λ k. xs ++ take k ys) less)
