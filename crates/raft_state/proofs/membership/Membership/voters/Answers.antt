use Rattle.std.proofs.Common.{◌∙◌, sym}
use Rattle.raft_state.specs.Members.{is_voter}
use Rattle.raft_state.proofs.Filtered.{filter_kept, filter_passed}
use Rattle.raft_state.proofs.membership.Membership.voters.Goals as goal
use Rattle.raft_state.proofs.membership.Membership.voters.Goals.{then-is_voter+in_ok-push, else-is_voter}

pub loop-id-preserved : goal.loop-id-preserved
loop-id-preserved g c =
    elim c.if-is_voter.branch [
      | then-is_voter+in_ok-push w ↦ rw (w.ids-is, w.in_ok-push.ensures.items, c.loop-id.invariant) (sym (filter_kept (is_voter g.NID.Ord.cmp c.args.self.now) (λ entry. entry.0) c.as_slice-nodes.result.now c.loop-id.id-index c.loop-id-item.result c.loop-id-test.true c.loop-id-item.is (sym c.is_voter.ensures ∙ w.if-is_voter.true)))
      | else-is_voter w ↦ rw (w.ids-is, c.loop-id.invariant) (sym (filter_passed (is_voter g.NID.Ord.cmp c.args.self.now) (λ entry. entry.0) c.as_slice-nodes.result.now c.loop-id.id-index c.loop-id-item.result c.loop-id-test.true c.loop-id-item.is (sym c.is_voter.ensures ∙ w.if-is_voter.false)))
    ]
