-- Tests over entries and their ids.
use Rattle.std.specs.Prelude.{◌≡◌, ◌||◌, ◌+◌, ◌≤◌, ℕ, Bool, true, false, not, List, [], ◌∷◌, Option, Some, length, map, refl, unwrap_or}
use Rattle.std.specs.List.{list_any, position_from, prefix_len}
use Rattle.std.proofs.Common.{ap, arith, cond, subst, suc, ◌∙◌}

-- an entry has an id that passes, where the ids have one
pub any_named : {X A : Type 0} (p : A → Bool) (name : X → A) (xs : List X) → list_any (λ x. p (name x)) xs ≡ list_any p (map name xs)
any_named p name [] = refl
any_named p name (x ∷ xs) = ap (λ b. p (name x) || b) (any_named p name xs)

-- an answer that speaks of the entries speaks of their ids
pub any_id : {X A : Type 0} (p : A → Bool) (name : X → A) (xs : List X) (b : Bool) → b ≡ list_any (λ x. p (name x)) xs → b ≡ list_any p (map name xs)
any_id p name xs b e = e ∙ any_named p name xs

-- the first place at which a test fails, or the length, is the length of the part before it
fail_place : {X : Type 0} (p : X → Bool) (i : ℕ) (xs : List X) → unwrap_or (position_from (λ x. not (p x)) i xs) (i + length xs) ≡ i + prefix_len p xs
fail_place p i [] = refl
fail_place p i (x ∷ xs) = go (p x) (fail_place p (i + 1) xs) where
  shift : (m n : ℕ) → (m + 1) + n ≡ m + (1 + n)
  shift m n = omega arith

  shift_length : (m n : ℕ) → (m + 1) + n ≡ m + suc n
  shift_length m n = omega arith

  stay : (n : ℕ) → n ≡ n + 0
  stay n = omega arith

  go : (b : Bool) → unwrap_or (position_from (λ x. not (p x)) (i + 1) xs) ((i + 1) + length xs) ≡ (i + 1) + prefix_len p xs
      → unwrap_or (cond (not b) (Some i) (position_from (λ x. not (p x)) (i + 1) xs)) (i + length (x ∷ xs)) ≡ i + cond b (1 + prefix_len p xs) 0
  go true h = subst (λ k. unwrap_or (position_from (λ x. not (p x)) (i + 1) xs) k ≡ i + (1 + prefix_len p xs)) (shift_length i (length xs)) (h ∙ shift i (prefix_len p xs))
  go false h = stay i

pub first_fail : {X : Type 0} (p : X → Bool) (xs : List X) → unwrap_or (position_from (λ x. not (p x)) 0 xs) (length xs) ≡ prefix_len p xs
first_fail p xs =
    let a : 0 + length xs ≡ length xs = from_none (length xs) in
    let b : 0 + prefix_len p xs ≡ prefix_len p xs = from_none (prefix_len p xs) in
    subst (λ k. unwrap_or (position_from (λ x. not (p x)) 0 xs) k ≡ prefix_len p xs) a (fail_place p 0 xs ∙ b) where
      from_none : (n : ℕ) → 0 + n ≡ n
      from_none n = omega arith

-- an answer that speaks of that place, or else of the length
pub first_fail_of : {X : Type 0} (p : X → Bool) (xs : List X) (o : Option ℕ) (r : ℕ) → o ≡ position_from (λ x. not (p x)) 0 xs → r ≡ unwrap_or o (length xs) → r ≡ prefix_len p xs
first_fail_of p xs o r e h = h ∙ ap (λ q. unwrap_or q (length xs)) e ∙ first_fail p xs

-- that part is of the list
pub prefix_low : {X : Type 0} (p : X → Bool) (xs : List X) → prefix_len p xs ≤ length xs
prefix_low p [] = omega arith
prefix_low p (x ∷ xs) = go (p x) (prefix_low p xs) where
  more : (m n : ℕ) → m ≤ n → 1 + m ≤ suc n
  more m n h = omega (arith, h)

  go : (b : Bool) → prefix_len p xs ≤ length xs → cond b (1 + prefix_len p xs) 0 ≤ length (x ∷ xs)
  go true h = more (prefix_len p xs) (length xs) h
  go false h = omega arith
