-- Iterations over rows: what one step adds.
use Rattle.std.proofs.Common.{◌≡◌, ◌∙◌, sym, ap, ℕ, ◌+◌, ◌<◌, List, [], ◌∷◌, ◌++◌, map, take, get_or, length}
use Rattle.std.specs.List.{flat_map}
use Rattle.std.proofs.lemmas.List.{take_more, map_more, flat_map_more}
use Rattle.raft_command.specs.Queue.{Queue, queued}

module _ {X Y : Type 0} (f : X → Y) where
  -- one item more is written
  pub written_more : (xs : List X) (i : ℕ) (x : X) (y : Y) (old new : List Y) → i < length xs → old ≡ map f (take i xs) → new ≡ old ++ y ∷ [] → y ≡ f x → x ≡ get_or xs i x → new ≡ map f (take (i + 1) xs)
  written_more xs i x y old new h e n v w =
      n ∙ (λ j. e j ++ v j ∷ []) ∙ ap (λ z. map f (take i xs) ++ f z ∷ []) w ∙ sym (map_more f xs i x h)

module _ {X B : Type 0} (f : X → List B) where
  -- one item's commands more are queued
  pub queued_more : (q old new : Queue B) (xs : List X) (i : ℕ) (x : X) → i < length xs → old ≡ queued q (flat_map f (take i xs)) → new ≡ queued old (f x) → x ≡ get_or xs i x
      → new ≡ queued q (flat_map f (take (i + 1) xs))
  queued_more q old new xs i x h e n w =
      n ∙ ap (λ z. queued z (f x)) e
      ∙ ap (λ ys. record q { items = ys }) (flat_map_more f q.items (take i xs) x ∙ ap (λ ys. q.items ++ flat_map f ys) (ap (λ z. take i xs ++ z ∷ []) w ∙ sym (take_more xs i x h)))
