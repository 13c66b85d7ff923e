use Rattle.std.proofs.Common.{◌∙◌, sym, ap, not}
use Rattle.raft_state.specs.Members.{is_voter}
use Rattle.raft_state.proofs.Filtered.{filter_kept, filter_passed}
use Rattle.raft_state.proofs.membership.Membership.learners.Goals as goal
use Rattle.raft_state.proofs.membership.Membership.learners.Goals.{then-not-is_voter+in_ok-push, else-not-is_voter}

pub loop-id-preserved : goal.loop-id-preserved
loop-id-preserved g c =
    elim c.if-not-is_voter.branch [
      | then-not-is_voter+in_ok-push w ↦ rw (w.ids-is, w.in_ok-push.ensures.items, c.loop-id.invariant) (sym (filter_kept (λ id. not (is_voter g.NID.Ord.cmp c.args.self.now id)) (λ entry. entry.0) c.as_slice-nodes.result.now c.loop-id.id-index c.loop-id-item.result c.loop-id-test.true c.loop-id-item.is (ap not (sym c.is_voter.ensures ∙ w.if-not-is_voter.true))))
      | else-not-is_voter w ↦ rw (w.ids-is, c.loop-id.invariant) (sym (filter_passed (λ id. not (is_voter g.NID.Ord.cmp c.args.self.now id)) (λ entry. entry.0) c.as_slice-nodes.result.now c.loop-id.id-index c.loop-id-item.result c.loop-id-test.true c.loop-id-item.is (ap not (sym c.is_voter.ensures ∙ w.if-not-is_voter.false))))
    ]
