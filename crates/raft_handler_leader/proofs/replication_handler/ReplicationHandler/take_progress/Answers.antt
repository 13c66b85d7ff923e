use Rattle.std.proofs.Common.{rules, ◌≡◌, true, false, None}
use Rattle.raft_handler_leader.specs.Handlers.{view_of_replication}
use Rattle.raft_steps.specs.ReplyRefusals.{refusals_of_entry, refusals_of_result}
use Rattle.raft_steps.specs.Replies.{update_progress}
use Rattle.raft_steps.proofs.KeptPurge.{progress_kept, progress_sight}
use Rattle.raft_steps.specs.Laws.{CommitsLatest}
use Rattle.raft_steps.proofs.Committed.{done_leaves}
use Rattle.raft_steps.proofs.LawsReply.{progress_law}
use Rattle.raft_steps.specs.ReplyLaws.{takes_matching}
use Rattle.raft_steps.proofs.Settled.{settled_led, settled_beside}
use Rattle.raft_steps.proofs.Sights.{step_is_sound}
use Rattle.raft_steps.specs.Refusals.{refusals_of_counter_led}
use Rattle.raft_handler_leader.proofs.Settling.{ends_settled, neither_asks}
use Rattle.raft_handler_leader.proofs.replication_handler.ReplicationHandler.take_progress.Goals as goal

pub returns-clause-step : goal.returns-clause-step
returns-clause-step g c =
    let l = view_of_replication c.args.self.now in
    let counted : refusals_of_counter_led l ≡ None = search rules in
    ends_settled _ _ _ _ _ _ _ _ _ _ (neither_asks (refusals_of_counter_led l) _ counted (search rules)) c.settle.ensures c.update_progress-done.ensures

pub returns-clause-sound : goal.returns-clause-sound
returns-clause-sound g c =
    let cmp = g.C.NodeId.Ord.cmp in
    let h = c.args.self.now in
    let l = view_of_replication h in
    let unspent : h.output.now.spent ≡ false = search rules in
    let passed : refusals_of_entry cmp c.args.target.now (λ e. refusals_of_result cmp l.core.state e c.args.request_id.now c.args.repl_res.now) l.leader ≡ None = c.in_ok-check_reply.ensures.passed in
    settled_led cmp h.config.now _ _ _ _ _ _ _ c.settle.ensures c.update_progress-done.ensures
    (progress_kept cmp g.met.C.NodeId.Ord.total g.met.C.NodeId.NodeId.equal_is_same h.config.now c.args.target.now c.args.request_id.now c.args.repl_res.now l passed (c.requires unspent))

pub returns-clause-beside : goal.returns-clause-beside
returns-clause-beside g c =
    let cmp = g.C.NodeId.Ord.cmp in
    let total = g.met.C.NodeId.Ord.total in
    let same = g.met.C.NodeId.NodeId.equal_is_same in
    let h = c.args.self.now in
    let l = view_of_replication h in
    let unspent : h.output.now.spent ≡ false = search rules in
    let passed : refusals_of_entry cmp c.args.target.now (λ e. refusals_of_result cmp l.core.state e c.args.request_id.now c.args.repl_res.now) l.leader ≡ None = c.in_ok-check_reply.ensures.passed in
    λ candidate before.
    settled_beside cmp h.config.now _ _ _ _ _ _ candidate _ c.settle.ensures c.update_progress-done.ensures
    (step_is_sound cmp h.config.now (update_progress cmp h.config.now c.args.target.now c.args.request_id.now c.args.repl_res.now) l candidate
    (λ k. progress_kept cmp total same h.config.now c.args.target.now c.args.request_id.now c.args.repl_res.now l passed k) (λ k. progress_sight cmp total same h.config.now c.args.target.now c.args.request_id.now c.args.repl_res.now l passed k) (before unspent))

pub returns-clause-commits : goal.returns-clause-commits
returns-clause-commits g c =
    let cmp = g.C.NodeId.Ord.cmp in
    let h = c.args.self.now in
    let l = view_of_replication h in
    let unspent : h.output.now.spent ≡ false = search rules in
    let passed : refusals_of_entry cmp c.args.target.now (λ e. refusals_of_result cmp l.core.state e c.args.request_id.now c.args.repl_res.now) l.leader ≡ None = c.in_ok-check_reply.ensures.passed in
    done_leaves (λ m. takes_matching c.args.request_id.now c.args.repl_res.now ≡ true → CommitsLatest cmp l.core.state.committed m) _ _ _ _ _ _ _ c.settle.ensures c.update_progress-done.ensures
    (λ t. progress_law cmp g.met.C.NodeId.Ord.total g.met.C.NodeId.NodeId.equal_is_same h.config.now c.args.target.now c.args.request_id.now c.args.repl_res.now l t passed (c.requires unspent))
