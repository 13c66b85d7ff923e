use Rattle.std.proofs.Common.{◌≡◌, ◌∙◌, sym, refl, ap, Bool, true, false, ◌||◌, List, [], ◌∷◌, cond, Bor}
use Rattle.std.specs.Prelude.{Option, None, Some, find}
use Rattle.std.specs.List.{list_any}
use Rattle.std.specs.Option.{is_some, option_copied, option_map}
use Rattle.raft_state.proofs.membership.Membership.contains.Goals as goal

-- something is found exactly if some item passes the test
is_found : {X Y : Type 0} (p : X → Bool) (f : X → Y) (xs : List X) → is_some (option_map f (find p xs)) ≡ list_any p xs
is_found p f [] = refl
is_found p f (x ∷ xs) = elim (p x) as (λ b. is_some (option_map f (cond b (Some x) (find p xs))) ≡ (b || list_any p xs)) [ true ↦ refl | false ↦ is_found p f xs ]

is_some_copied : {T : Type 0} (o : Option (Bor T)) → is_some (option_copied o) ≡ is_some o
is_some_copied None = refl
is_some_copied (Some x) = refl

pub returns : goal.returns
returns g c = c.is_some.ensures ∙ (sym (is_some_copied c.get_node.result) ∙ (ap is_some c.get_node.ensures ∙ is_found _ _ c.args.self.now.nodes))
