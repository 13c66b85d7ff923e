-- What a loop keeps that looks for an element that passes a test.
use Rattle.std.proofs.Common.{◌≡◌, ◌∙◌, sym, ap, ℕ, ◌+◌, ◌<◌, ◌≤◌, Bool, true, false, List, length, get_or, drop}
use Rattle.std.proofs.lemmas.List.{at_drop_more, at_drop_all}
use Rattle.std.specs.List.{list_any}
use Rattle.std.specs.Prelude.{◌||◌}

module _ {X : Type 0} (p : X → Bool) (xs : List X) (i : ℕ) where
  -- at a place, its element's answer comes first
  any_at : (x : X) (b : Bool) → i < length xs → x ≡ get_or xs i x → b ≡ p x → list_any p xs ≡ list_any p (drop i xs) → list_any p xs ≡ (b || list_any p (drop (i + 1) xs))
  any_at x b inside is test before =
      before ∙ at_drop_more (list_any p) xs i x inside ∙ ap (λ y. p y || list_any p (drop (i + 1) xs)) (sym is) ∙ ap (λ c. c || list_any p (drop (i + 1) xs)) (sym test)

  -- one that fails is passed by
  pub any_more : (x : X) → i < length xs → x ≡ get_or xs i x → false ≡ p x → list_any p xs ≡ list_any p (drop i xs) → list_any p xs ≡ list_any p (drop (i + 1) xs)
  any_more x = any_at x false

  -- one that passes is the answer
  pub any_here : (x : X) → i < length xs → x ≡ get_or xs i x → true ≡ p x → list_any p xs ≡ list_any p (drop i xs) → true ≡ list_any p xs
  any_here x inside is test before = sym (any_at x true inside is test before)

  -- at the end there is none
  pub any_over : length xs ≤ i → list_any p xs ≡ list_any p (drop i xs) → false ≡ list_any p xs
  any_over over before = sym (before ∙ at_drop_all (list_any p) xs i over)
