use Rattle.std.proofs.Common.{◌∙◌, get_or, refl, sym}
use Rattle.raft_recovery.specs.Choosing.{follows}
use Rattle.std.proofs.lemmas.List.{get_or_default, take_all}
use Rattle.raft_progress.proofs.Additions.{filter_kept, filter_passed}
use Rattle.raft_recovery.proofs.premises.followers.Goals as goal
use Rattle.raft_recovery.proofs.premises.followers.Goals.{then-is_follower+in_ok-push, else-is_follower}

pub loop-id-preserved : goal.loop-id-preserved
loop-id-preserved c =
    let here = get_or c.args.up.now c.loop-id.id-index 0 in
    let is = get_or_default c.args.up.now c.loop-id.id-index 0 here c.loop-id-test.true in
    elim c.if-is_follower.branch [
      | then-is_follower+in_ok-push w ↦ rw (w.ids-is, w.in_ok-push.ensures.items, c.loop-id.invariant)
          (sym (filter_kept (follows c.args.world.now.history.net.nodes c.args.found.now) c.args.up.now c.loop-id.id-index here c.loop-id-test.true
          is (sym c.in_ok-is_follower.ensures ∙ w.if-is_follower.true)))
      | else-is_follower w ↦ rw (w.ids-is, c.loop-id.invariant)
          (sym (filter_passed (follows c.args.world.now.history.net.nodes c.args.found.now) c.args.up.now c.loop-id.id-index here c.loop-id-test.true
          is (sym c.in_ok-is_follower.ensures ∙ w.if-is_follower.false)))
    ]

pub returns : goal.returns
returns c = rw (c.loop-id.invariant, take_all c.loop-id.id-index c.args.up.now c.loop-id-test.false) refl
