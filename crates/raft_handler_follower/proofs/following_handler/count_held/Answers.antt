use Rattle.std.proofs.Common.{◌≡◌, ◌∙◌, sym, ap, ℕ, ◌+◌, ◌<◌, ◌≤◌, Bool, true, false, List, length, get_or, drop, arith}
use Rattle.std.proofs.lemmas.List.Sums.{prefix_len-drop_yes, prefix_len-drop_no, prefix_len-drop_all}
use Rattle.std.specs.List.{prefix_len}
use Rattle.raft_state.specs.State.{has_log_id}
use Rattle.raft_handler_follower.proofs.following_handler.count_held.Goals as goal

module _ {X : Type 0} (p : X → Bool) (xs : List X) (i : ℕ) where
  held_more : (x : X) → i < length xs → x ≡ get_or xs i x → p x ≡ true → prefix_len p xs ≡ i + prefix_len p (drop i xs) → prefix_len p xs ≡ (i + 1) + prefix_len p (drop (i + 1) xs)
  held_more x inside is held before = omega (arith, before, prefix_len-drop_yes p xs i x inside (ap p (sym is) ∙ held))

  held_upto : (x : X) → i < length xs → x ≡ get_or xs i x → p x ≡ false → prefix_len p xs ≡ i + prefix_len p (drop i xs) → i ≡ prefix_len p xs
  held_upto x inside is held before = omega (arith, before, prefix_len-drop_no p xs i x inside (ap p (sym is) ∙ held))

  held_all : length xs ≤ i → i ≤ length xs → prefix_len p xs ≡ i + prefix_len p (drop i xs) → length xs ≡ prefix_len p xs
  held_all over within before = omega (arith, over, within, before, prefix_len-drop_all p xs i over)

pub loop-place-preserved : goal.loop-place-preserved
loop-place-preserved g c =
    held_more _ c.args.entries.now c.loop-place.place c.index-entries-place.result c.loop-place-test.true c.index-entries-place.is
    (sym (sym c.if-not-has_log_id.false ∙ (c.has_log_id.ensures ∙ ap (has_log_id g.C.NodeId.Ord.cmp c.args.state.now) c.get_log_id.ensures))) c.loop-place.invariant

pub returns-then-not-has_log_id : goal.returns-then-not-has_log_id
returns-then-not-has_log_id g c =
    held_upto _ c.args.entries.now c.loop-place.place c.index-entries-place.result c.loop-place-test.true c.index-entries-place.is
    (sym (sym c.if-not-has_log_id.true ∙ (c.has_log_id.ensures ∙ ap (has_log_id g.C.NodeId.Ord.cmp c.args.state.now) c.get_log_id.ensures))) c.loop-place.invariant

pub returns : goal.returns
returns g c = held_all _ c.args.entries.now c.loop-place.place c.loop-place-test.false c.loop-place.auto.place-end c.loop-place.invariant
