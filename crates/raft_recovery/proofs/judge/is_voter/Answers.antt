use Rattle.std.proofs.Common.{◌≡◌, ◌∙◌, ◌↔◌, Bool, subst, sym, true}
use Rattle.std.specs.Ordering.{nat_cmp}
use Rattle.raft_state.specs.Members.{voter_ids}
use Rattle.proof_progress.specs.Elections.{Listed}
use Rattle.raft_recovery.proofs.Judging.{votes_if_member, votes_not}
use Rattle.raft_recovery.proofs.judge.is_voter.Goals as goal

pub returns-then-is_voter : goal.returns-then-is_voter
returns-then-is_voter c =
    votes_if_member c.args.membership.now c.args.id c.contains.result (sym c.is_voter.ensures ∙ c.if-is_voter.true) c.contains.ensures

pub returns-else-is_voter : goal.returns-else-is_voter
returns-else-is_voter c =
    subst (λ (b : Bool). (b ≡ true) ↔ Listed (voter_ids nat_cmp c.args.membership.now) c.args.id) (sym c.if-is_voter.false)
    (votes_not c.args.membership.now c.args.id (sym c.is_voter.ensures ∙ c.if-is_voter.false))
