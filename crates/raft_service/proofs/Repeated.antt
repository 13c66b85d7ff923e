-- An item so many times.
use Rattle.std.proofs.Common.{ℕ, zero, suc, ◌+◌, ◌≡◌, [], ◌∷◌, ◌++◌, refl, ap, ◌∙◌, arith}
use Rattle.std.specs.List.{repeat}

again : {X : Type 0} (n : ℕ) (x : X) → repeat n (x ∷ []) ++ x ∷ [] ≡ repeat (suc n) (x ∷ [])
again zero x = refl
again (suc n) x = ap (λ xs. x ∷ xs) (again n x)

one_more : (n : ℕ) → suc n ≡ n + 1
one_more n = omega arith

pub repeat_more : {X : Type 0} (n : ℕ) (x : X) → repeat n (x ∷ []) ++ x ∷ [] ≡ repeat (n + 1) (x ∷ [])
repeat_more n x = again n x ∙ ap (λ k. repeat k (x ∷ [])) (one_more n)
