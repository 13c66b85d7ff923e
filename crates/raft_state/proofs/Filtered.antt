-- A filter over the items of one row more.
use Rattle.std.proofs.Common.{◌≡◌, ◌∙◌, sym, ap, ℕ, ◌+◌, ◌<◌, Bool, true, false, List, [], ◌∷◌, ◌++◌, cond, length, map, filter, take, get_or}
use Rattle.std.proofs.lemmas.List.{map_more, append-nil}
use Rattle.std.proofs.lemmas.List.Elements.{filter-append}

module _ {X Y : Type 0} (p : Y → Bool) (f : X → Y) (xs : List X) (i : ℕ) (x : X) (inside : i < length xs) (is : x ≡ get_or xs i x) where
  filter_more : filter p (map f (take (i + 1) xs)) ≡ filter p (map f (take i xs)) ++ cond (p (f x)) (f x ∷ []) []
  filter_more =
      let more : map f (take (i + 1) xs) ≡ map f (take i xs) ++ f x ∷ [] = map_more f xs i x inside ∙ ap (λ y. map f (take i xs) ++ f y ∷ []) (sym is) in
      ap (filter p) more ∙ filter-append p (map f (take i xs)) (f x ∷ [])

  -- a row that passes adds its item
  pub filter_kept : p (f x) ≡ true → filter p (map f (take (i + 1) xs)) ≡ filter p (map f (take i xs)) ++ f x ∷ []
  filter_kept e = filter_more ∙ ap (λ b. filter p (map f (take i xs)) ++ cond b (f x ∷ []) []) e

  -- a row that doesn't pass adds none
  pub filter_passed : p (f x) ≡ false → filter p (map f (take (i + 1) xs)) ≡ filter p (map f (take i xs))
  filter_passed e = filter_more ∙ (ap (λ b. filter p (map f (take i xs)) ++ cond b (f x ∷ []) []) e ∙ append-nil (filter p (map f (take i xs))))
