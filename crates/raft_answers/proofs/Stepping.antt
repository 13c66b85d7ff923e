-- A loop that takes the first items of a queue while they pass a test.
use Rattle.std.proofs.Common.{◌≡◌, ℕ, suc, ◌+◌, ◌<◌, Bool, true, List, [], ◌∷◌, ◌++◌, ◌∙◌, length, get_or, drop, refl, sym, ap, subst, append_assoc, arith}
use Rattle.std.specs.Prelude.{map}
use Rattle.std.specs.List.{prefix_len, take_while}

one_more : (n : ℕ) → 1 + n ≡ suc n
one_more n = omega arith

-- the first item passes: what is left of the rest is left of all, and what is said of it and of the rest is said of all
pub passes : {X Y : Type 0} (p : X → Bool) (f : X → Y) (xs rest : List X) (x : X) (before after : List Y) → 0 < length xs → x ≡ get_or xs 0 x
    → rest ≡ drop 1 xs → p x ≡ true → after ≡ before ++ f x ∷ []
    → (drop (prefix_len p rest) rest ≡ drop (prefix_len p xs) xs) × (after ++ map f (take_while p rest) ≡ before ++ map f (take_while p xs))
passes p f [] rest x before after some is r holds told = absurd (omega (arith, some))
passes p f (y ∷ ys) rest x before after some is r holds told =
    subst (λ zs. (drop (prefix_len p zs) zs ≡ drop (prefix_len p (y ∷ ys)) (y ∷ ys))
    × (after ++ map f (take_while p zs) ≡ before ++ map f (take_while p (y ∷ ys)))) (sym r) (left, all)
  where
    here : p y ≡ true
    here = subst (λ z. p z ≡ true) is holds

    left : drop (prefix_len p ys) ys ≡ drop (prefix_len p (y ∷ ys)) (y ∷ ys)
    left = rw (here, one_more (prefix_len p ys)) refl

    all : after ++ map f (take_while p ys) ≡ before ++ map f (take_while p (y ∷ ys))
    all = rw (here, one_more (prefix_len p ys)) (ap (λ b. b ++ map f (take_while p ys)) (told ∙ ap (λ z. before ++ f z ∷ []) is)
        ∙ append_assoc before (f y ∷ []) (map f (take_while p ys)))
