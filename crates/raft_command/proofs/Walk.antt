-- An iterator that ends where the one inside it ends.
use Rattle.std.proofs.Common.{◌≡◌, List, [], ◌∷◌, length, Option, None, Some, MatchOption, Bor, refl, ap, ◌∙◌}

-- a list without items is empty
empty : {A : Type 0} (xs : List A) → length xs ≡ 0 → xs ≡ []
empty [] h = refl
empty (x ∷ xs) h = cc

pub yields : {I A : Type 0} (rest : I → List A) (r : Option (Bor A)) (s t : I) → MatchOption r ((length (rest s) ≡ 0) × (t ≡ s)) (λ x. rest s ≡ x.now ∷ rest t) → MatchOption r ((rest s ≡ []) × (rest t ≡ [])) (λ x. rest s ≡ x.now ∷ rest t)
yields rest None s t h = (empty _ h.0, ap rest h.1 ∙ empty _ h.0)
yields rest (Some x) s t h = h
