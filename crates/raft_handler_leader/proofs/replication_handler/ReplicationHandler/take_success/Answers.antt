use Rattle.std.proofs.Common.{rules, ◌≡◌, true, false, None, lit≤}
use Rattle.raft_handler_leader.specs.Handlers.{view_of_replication}
use Rattle.raft_steps.specs.ReplyRefusals.{refusals_of_entry, refusals_of_answer}
use Rattle.raft_steps.specs.Replies.{update_success_progress}
use Rattle.raft_steps.proofs.Counted.{counted_seq, nearer}
use Rattle.raft_steps.specs.Parts.{core_of}
use Rattle.raft_steps.proofs.KeptReplies.{success_kept, success_sight}
use Rattle.raft_steps.specs.Laws.{CommitsLatest}
use Rattle.raft_steps.proofs.Committed.{done_leaves}
use Rattle.raft_steps.proofs.LawsReply.{success_law}
use Rattle.raft_steps.specs.ReplyLaws.{answer_matches}
use Rattle.raft_steps.proofs.Settled.{settled_led, settled_beside}
use Rattle.raft_steps.proofs.Sights.{step_is_sound}
use Rattle.raft_steps.specs.Refusals.{refusals_of_counter_led}
use Rattle.raft_handler_leader.proofs.Settling.{ends_settled, neither_asks}
use Rattle.raft_handler_leader.proofs.replication_handler.ReplicationHandler.take_success.Goals as goal

pub update_success_progress-done-requires-clause-number : goal.update_success_progress-done-requires-clause-number
update_success_progress-done-requires-clause-number g c =
    let h = c.args.self.now in
    nearer h.output.now.seq 2 (lit≤ tt) (counted_seq (core_of h.state.now h.output.now) h.leader.now.progress.rows (search rules))

pub returns-clause-step : goal.returns-clause-step
returns-clause-step g c =
    let l = view_of_replication c.args.self.now in
    let counted : refusals_of_counter_led l ≡ None = search rules in
    ends_settled _ _ _ _ _ _ _ _ _ _ (neither_asks (refusals_of_counter_led l) _ counted c.in_ok-check_success.ensures.passed) c.settle.ensures c.update_success_progress-done.ensures

pub returns-clause-sound : goal.returns-clause-sound
returns-clause-sound g c =
    let cmp = g.C.NodeId.Ord.cmp in
    let h = c.args.self.now in
    let l = view_of_replication h in
    let unspent : h.output.now.spent ≡ false = search rules in
    let passed : refusals_of_entry cmp c.args.target.now (λ e. refusals_of_answer cmp l.core.state e c.args.request_id.now c.args.answer.now) l.leader ≡ None = c.in_ok-check_success.ensures.passed in
    settled_led cmp h.config.now _ _ _ _ _ _ _ c.settle.ensures c.update_success_progress-done.ensures
    (success_kept cmp g.met.C.NodeId.Ord.total g.met.C.NodeId.NodeId.equal_is_same h.config.now c.args.target.now c.args.request_id.now c.args.answer.now l passed (c.requires unspent))

pub returns-clause-beside : goal.returns-clause-beside
returns-clause-beside g c =
    let cmp = g.C.NodeId.Ord.cmp in
    let total = g.met.C.NodeId.Ord.total in
    let same = g.met.C.NodeId.NodeId.equal_is_same in
    let h = c.args.self.now in
    let l = view_of_replication h in
    let unspent : h.output.now.spent ≡ false = search rules in
    let passed : refusals_of_entry cmp c.args.target.now (λ e. refusals_of_answer cmp l.core.state e c.args.request_id.now c.args.answer.now) l.leader ≡ None = c.in_ok-check_success.ensures.passed in
    λ candidate before.
    settled_beside cmp h.config.now _ _ _ _ _ _ candidate _ c.settle.ensures c.update_success_progress-done.ensures
    (step_is_sound cmp h.config.now (update_success_progress cmp h.config.now c.args.target.now c.args.request_id.now c.args.answer.now) l candidate
    (λ k. success_kept cmp total same h.config.now c.args.target.now c.args.request_id.now c.args.answer.now l passed k) (λ k. success_sight cmp total same h.config.now c.args.target.now c.args.request_id.now c.args.answer.now l) (before unspent))

pub returns-clause-commits : goal.returns-clause-commits
returns-clause-commits g c =
    let cmp = g.C.NodeId.Ord.cmp in
    let h = c.args.self.now in
    let l = view_of_replication h in
    let unspent : h.output.now.spent ≡ false = search rules in
    let passed : refusals_of_entry cmp c.args.target.now (λ e. refusals_of_answer cmp l.core.state e c.args.request_id.now c.args.answer.now) l.leader ≡ None = c.in_ok-check_success.ensures.passed in
    done_leaves (λ m. answer_matches c.args.request_id.now c.args.answer.now ≡ true → CommitsLatest cmp l.core.state.committed m) _ _ _ _ _ _ _ c.settle.ensures c.update_success_progress-done.ensures
    (λ t. success_law cmp g.met.C.NodeId.Ord.total g.met.C.NodeId.NodeId.equal_is_same h.config.now c.args.target.now c.args.request_id.now c.args.answer.now l t passed (c.requires unspent))
