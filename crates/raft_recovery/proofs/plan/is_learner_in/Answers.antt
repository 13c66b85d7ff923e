use Rattle.std.proofs.Common.{◌∙◌, ◌++◌}
use Rattle.std.specs.Ordering.{nat_cmp}
use Rattle.raft_state.specs.Members.{learner_ids, voter_ids}
use Rattle.raft_state.specs.Sorted.{has_id}
use Rattle.proof_progress.specs.GoneByPlan.{is_voter_in}
use Rattle.raft_recovery.proofs.Planned.{learns_if, learns_not, member_exactly}
use Rattle.raft_recovery.proofs.plan.is_learner_in.Goals as goal

pub returns-then-not-is_voter_in : goal.returns-then-not-is_voter_in
returns-then-not-is_voter_in c =
    let m = c.args.membership.now in
    learns_if c.is_voter_in.result (is_voter_in m c.args.id) c.contains.result
    (has_id nat_cmp (voter_ids nat_cmp m ++ learner_ids nat_cmp m) c.args.id)
    c.is_voter_in.ensures c.if-not-is_voter_in.true (c.contains.ensures ∙ member_exactly m c.args.id)

pub returns-else-not-is_voter_in : goal.returns-else-not-is_voter_in
returns-else-not-is_voter_in c =
    let m = c.args.membership.now in
    learns_not c.is_voter_in.result (is_voter_in m c.args.id) (has_id nat_cmp (voter_ids nat_cmp m ++ learner_ids nat_cmp m) c.args.id)
    c.is_voter_in.ensures c.if-not-is_voter_in.false
