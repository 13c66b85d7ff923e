use Rattle.std.proofs.Common.{◌≡◌, ◌∙◌, sym, ap, ℕ, ◌+◌, ◌<◌, true, ◌&&◌, List, ◌∷◌, length, get_or, drop, suc, drop-cons, add-one}
use Rattle.std.specs.Prelude.{Option, Some}
use Rattle.raft_state.specs.declared.ids.LogId.{LogId}
use Rattle.raft_state.specs.Consecutive.{follows, follow_on}
use Rattle.raft_state.proofs.log.is_consecutive.Goals as goal

-- where an id follows the one before it, the test goes on from it
follow_rest : {NID : Type 0} (previous : Option (LogId NID)) (ids : List (LogId NID)) (i : ℕ) (x : LogId NID) → i < length ids → x ≡ get_or ids i x → true ≡ follows previous x.index → follow_on previous (drop i ids) ≡ follow_on (Some x) (drop (i + 1) ids)
follow_rest previous ids i x inside is next =
    let rest : drop i ids ≡ x ∷ drop (suc i) ids = drop-cons ids i x inside ∙ ap (λ y. y ∷ drop (suc i) ids) (sym is) in
    ap (follow_on previous) rest ∙ (ap (λ b. b && follow_on (Some x) (drop (suc i) ids)) (sym next) ∙ ap (λ k. follow_on (Some x) (drop k ids)) (sym (add-one i)))

pub loop-id-preserved : goal.loop-id-preserved
loop-id-preserved g c = c.loop-id.invariant ∙ follow_rest c.loop-id.previous c.args.ids.now c.loop-id.id-index c.id-item.result c.loop-id-test.true c.id-item.is c.if-not-is_next.ensures
