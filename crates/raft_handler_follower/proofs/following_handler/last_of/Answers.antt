use Rattle.std.proofs.Common.{◌≡◌, ◌∙◌, sym, ap, ℕ, ◌-◌, ◌<◌, ◌≤◌, List, [], ◌∷◌, length, get_or, map, arith, zero, suc, refl}
use Rattle.std.proofs.lemmas.List.{length-map}
use Rattle.std.specs.Prelude.{Some, slice_get}
use Rattle.raft_handler_follower.proofs.following_handler.last_of.Goals as goal

-- the name at a place is that of what stands there
named_at : {X A : Type 0} (name : X → A) (xs : List X) (i : ℕ) (d : X) → i < length xs → slice_get (map name xs) i ≡ Some (name (get_or xs i d))
named_at name [] i d inside = absurd (omega (arith, inside))
named_at name (x ∷ xs) zero d inside = refl
named_at name (x ∷ xs) (suc i) d inside = named_at name xs i d (omega (arith, inside))

last_named : {X A : Type 0} (name : X → A) (xs : List X) (x : X) (a : A) → 1 ≤ length xs → x ≡ get_or xs (length xs - 1) x → a ≡ name x → Some a ≡ slice_get (map name xs) (length (map name xs) - 1)
last_named name xs x a some is named =
    ap Some (named ∙ ap name is) ∙ sym (named_at name xs (length xs - 1) x (omega (arith, some))) ∙ ap (λ n. slice_get (map name xs) (n - 1)) (sym (length-map xs name))

pub returns-in-len1-up : goal.returns-in-len1-up
returns-in-len1-up g c = last_named g.C.Entry.RaftEntry.id_of c.args.entries.now c.last-item.result _ c.in-len1-up.len_at_least c.last-item.is c.get_log_id.ensures
