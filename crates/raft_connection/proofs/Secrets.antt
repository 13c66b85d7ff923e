-- Bytes that differ nowhere are the same.
use Rattle.std.specs.Prelude.{◌≡◌, ℕ, ◌==◌, ◌&&◌, Bool, true, false, not, length, List, [], ◌∷◌, zip, count_by, refl}
use Rattle.std.specs.Str.{bytes_eq}
use Rattle.std.proofs.Common.{◌+◌, arith, cond, zero-add, ap, ◌∙◌}
use Rattle.std.proofs.lemmas.List.Sums.{sum_by-cons}

one_more : (n : ℕ) (b r : Bool) → (n == 0) ≡ r → ((cond (not b) 1 0 + n) == 0) ≡ (b && r)
one_more n true r e = rw zero-add e
one_more n false r e = grind arith

pub none_differ : (xs ys : List ℕ) → length xs ≡ length ys → (count_by (λ p. not (p.0 == p.1)) (zip xs ys) == 0) ≡ bytes_eq xs ys
none_differ [] [] h = refl
none_differ [] (y ∷ ys) h = absurd (omega (arith, h))
none_differ (x ∷ xs) [] h = absurd (omega (arith, h))
none_differ (x ∷ xs) (y ∷ ys) h =
    ap (λ (n : ℕ). n == 0) (sum_by-cons (λ (p : ℕ × ℕ). cond (not (p.0 == p.1)) 1 0) (x, y) (zip xs ys))
    ∙ one_more (count_by (λ p. not (p.0 == p.1)) (zip xs ys)) (x == y) (bytes_eq xs ys) (none_differ xs ys (omega (arith, h)))
