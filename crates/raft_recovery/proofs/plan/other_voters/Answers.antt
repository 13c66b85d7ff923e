use Rattle.std.proofs.Common.{ℕ, ◌∙◌, ◌&&◌, Bool, not, get_or, refl, sym}
use Rattle.std.specs.Prelude.{nat_eq}
use Rattle.std.proofs.lemmas.List.{get_or_default, take_all}
use Rattle.raft_progress.proofs.Additions.{filter_kept, filter_passed}
use Rattle.raft_state.specs.declared.membership.Members.{Members}
use Rattle.proof_progress.specs.GoneByPlan.{is_voter_in}
use Rattle.raft_recovery.proofs.plan.other_voters.Goals as goal
use Rattle.raft_recovery.proofs.plan.other_voters.Goals.{then-is_other_voter+in_ok-push, else-is_other_voter}

abbrev is_other : Members ℕ (Unit {0}) → ℕ → ℕ → Bool
is_other m n t = is_voter_in m t && not (nat_eq t n)

pub loop-other-preserved : goal.loop-other-preserved
loop-other-preserved c =
    let here = get_or c.args.up.now c.loop-other.other-index 0 in
    let is = get_or_default c.args.up.now c.loop-other.other-index 0 here c.loop-other-test.true in
    elim c.if-is_other_voter.branch [
      | then-is_other_voter+in_ok-push w ↦ rw (w.ids-is, w.in_ok-push.ensures.items, c.loop-other.invariant)
          (sym (filter_kept (is_other c.args.membership.now c.args.id) c.args.up.now c.loop-other.other-index here c.loop-other-test.true is
          (sym c.is_other_voter.ensures ∙ w.if-is_other_voter.true)))
      | else-is_other_voter w ↦ rw (w.ids-is, c.loop-other.invariant)
          (sym (filter_passed (is_other c.args.membership.now c.args.id) c.args.up.now c.loop-other.other-index here c.loop-other-test.true is
          (sym c.is_other_voter.ensures ∙ w.if-is_other_voter.false)))
    ]

pub returns : goal.returns
returns c = rw (c.loop-other.invariant, take_all c.loop-other.other-index c.args.up.now c.loop-other-test.false) refl
