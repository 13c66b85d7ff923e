-- Lists are equal if they are as long and their pairs are equal.
use Rattle.std.proofs.Common.{◌≡◌, ℕ, Bool, true, false, ◌&&◌, ◌==◌, List, [], ◌∷◌, length, map, refl, sym, ap, ◌∙◌, arith}
use Rattle.std.proofs.lemmas.Bool.Decides.{nat_tests}
use Rattle.std.proofs.Math.Dec.{eqb-suc-suc, eqb-suc-zero, eqb-zero-suc}
use Rattle.std.specs.List.{list_all, zip}
use Rattle.std.specs.Cmp.Lexicographic.{pointwise}

same_number : (a b : ℕ) → a ≡ b → (a == b) ≡ true
same_number a b e = grind (arith, nat_tests)

swapped : (a b c d : Bool) → (a && c) ≡ d → (a && (b && c)) ≡ (b && d)
swapped true true c d e = e
swapped true false c d e = refl
swapped false true c d e = e
swapped false false c d e = refl

module _ {A B : Type 0} (f : A → B) (eq : B → B → Bool) where
  pub same_places : (xs ys : List A) → ((length xs == length ys) && list_all (λ pair. eq (f pair.0) (f pair.1)) (zip xs ys)) ≡ pointwise eq (map f xs) (map f ys)
  same_places [] [] = refl
  same_places [] (y ∷ ys) = ap (λ b. b && true) (eqb-zero-suc (length ys))
  same_places (x ∷ xs) [] = ap (λ b. b && true) (eqb-suc-zero (length xs))
  same_places (x ∷ xs) (y ∷ ys) =
      ap (λ b. b && (eq (f x) (f y) && list_all (λ pair. eq (f pair.0) (f pair.1)) (zip xs ys))) (eqb-suc-suc (length xs) (length ys))
      ∙ swapped _ _ _ _ (same_places xs ys)

  pub same_places_of : (xs ys : List A) → length xs ≡ length ys → list_all (λ pair. eq (f pair.0) (f pair.1)) (zip xs ys) ≡ pointwise eq (map f xs) (map f ys)
  same_places_of xs ys e =
      ap (λ b. b && list_all (λ pair. eq (f pair.0) (f pair.1)) (zip xs ys)) (sym (same_number _ _ e)) ∙ same_places xs ys
