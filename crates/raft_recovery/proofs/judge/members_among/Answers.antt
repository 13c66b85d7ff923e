use Rattle.std.proofs.Common.{◌∙◌, get_or, refl, sym}
use Rattle.std.specs.Ordering.{nat_cmp}
use Rattle.raft_state.specs.Members.{contains}
use Rattle.std.proofs.lemmas.List.{get_or_default, take_all}
use Rattle.raft_progress.proofs.Additions.{filter_kept, filter_passed}
use Rattle.raft_recovery.proofs.judge.members_among.Goals as goal
use Rattle.raft_recovery.proofs.judge.members_among.Goals.{then-contains+in_ok-push, else-contains}

pub loop-id-preserved : goal.loop-id-preserved
loop-id-preserved c =
    let here = get_or c.args.up.now c.loop-id.id-index 0 in
    let is = get_or_default c.args.up.now c.loop-id.id-index 0 here c.loop-id-test.true in
    elim c.if-contains.branch [
      | then-contains+in_ok-push w ↦ rw (w.ids-is, w.in_ok-push.ensures.items, c.loop-id.invariant)
          (sym (filter_kept (contains nat_cmp c.args.membership.now) c.args.up.now c.loop-id.id-index here c.loop-id-test.true is
          (sym c.contains.ensures ∙ w.if-contains.true)))
      | else-contains w ↦ rw (w.ids-is, c.loop-id.invariant)
          (sym (filter_passed (contains nat_cmp c.args.membership.now) c.args.up.now c.loop-id.id-index here c.loop-id-test.true is
          (sym c.contains.ensures ∙ w.if-contains.false)))
    ]

pub returns : goal.returns
returns c = rw (c.loop-id.invariant, take_all c.loop-id.id-index c.args.up.now c.loop-id-test.false) refl
