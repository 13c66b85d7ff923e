use Rattle.std.proofs.Common.{◌∙◌, sym, ap, not, refl}
use Rattle.std.proofs.lemmas.List.{take_all}
use Rattle.raft_state.specs.Sorted.{has_id}
use Rattle.raft_progress.proofs.Additions.{filter_kept, filter_passed}
use Rattle.raft_progress.proofs.rows.without.Goals as goal
use Rattle.raft_progress.proofs.rows.without.Goals.{then-not-holds+in_ok-push, else-not-holds}

pub loop-id-preserved : goal.loop-id-preserved
loop-id-preserved g c =
    elim c.if-not-holds.branch [
      | then-not-holds+in_ok-push w ↦ rw (w.left-is, w.in_ok-push.ensures.items, c.loop-id.invariant) (sym (filter_kept (λ id. not (has_id g.ID.Ord.cmp c.args.others.now id)) c.args.ids.now c.loop-id.id-index c.id-item.result c.loop-id-test.true c.id-item.is (ap not (sym c.holds.ensures ∙ w.if-not-holds.true))))
      | else-not-holds w ↦ rw (w.left-is, c.loop-id.invariant) (sym (filter_passed (λ id. not (has_id g.ID.Ord.cmp c.args.others.now id)) c.args.ids.now c.loop-id.id-index c.id-item.result c.loop-id-test.true c.id-item.is (ap not (sym c.holds.ensures ∙ w.if-not-holds.false))))
    ]

pub returns : goal.returns
returns g c = rw (c.loop-id.invariant, take_all c.loop-id.id-index c.args.ids.now c.loop-id-test.false) refl
