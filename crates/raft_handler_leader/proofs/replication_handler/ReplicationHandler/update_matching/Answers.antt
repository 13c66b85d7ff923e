use Rattle.std.proofs.Common.{rules, ◌≡◌, false, None, lit≤}
use Rattle.raft_handler_leader.specs.Handlers.{view_of_replication}
use Rattle.raft_steps.specs.ReplyRefusals.{refusals_of_entry, refusals_of_acknowledged}
use Rattle.raft_steps.specs.Replies.{update_matching}
use Rattle.raft_steps.proofs.Answered.{acknowledged_end, target_ahead}
use Rattle.raft_steps.proofs.Counted.{counted_seq, nearer}
use Rattle.raft_steps.proofs.KeptReplies.{matching_kept, matching_sight}
use Rattle.raft_steps.specs.Laws.{CommitsLatest}
use Rattle.raft_steps.proofs.Committed.{done_leaves}
use Rattle.raft_steps.proofs.LawsReply.{matching_law}
use Rattle.raft_steps.proofs.Settled.{settled_led, settled_beside}
use Rattle.raft_steps.specs.Parts.{core_of}
use Rattle.raft_steps.proofs.Sights.{step_is_sound}
use Rattle.raft_steps.specs.Refusals.{refusals_of_counter_led}
use Rattle.raft_handler_leader.proofs.Settling.{ends_settled, neither_asks}
use Rattle.raft_handler_leader.proofs.replication_handler.ReplicationHandler.update_matching.Goals as goal

pub update_matching-done-requires-clause-number : goal.update_matching-done-requires-clause-number
update_matching-done-requires-clause-number g c =
    let h = c.args.self.now in
    nearer h.output.now.seq 2 (lit≤ tt) (counted_seq (core_of h.state.now h.output.now) h.leader.now.progress.rows c.in_ok-may_take_matching.ensures.counted)

pub update_matching-done-requires-clause-end : goal.update_matching-done-requires-clause-end
update_matching-done-requires-clause-end g c =
    let cmp = g.C.NodeId.Ord.cmp in
    let h = c.args.self.now in
    let l = view_of_replication h in
    let unspent : h.output.now.spent ≡ false = c.in_ok-may_take_matching.ensures.unspent in
    let passed : refusals_of_entry cmp c.args.node_id (λ e. refusals_of_acknowledged cmp l.core.state e c.args.inflight_id c.args.matching) l.leader ≡ None = c.in_ok-may_take_matching.ensures.passed in
    acknowledged_end cmp h.config.now c.args.node_id l (c.requires unspent) c.args.inflight_id c.args.matching passed

pub update_matching-done-requires-clause-ahead : goal.update_matching-done-requires-clause-ahead
update_matching-done-requires-clause-ahead g c =
    let h = c.args.self.now in
    let unspent : h.output.now.spent ≡ false = c.in_ok-may_take_matching.ensures.unspent in
    target_ahead g.C.NodeId.Ord.cmp h.config.now c.args.node_id (view_of_replication h) (c.requires unspent)

pub returns-clause-step : goal.returns-clause-step
returns-clause-step g c =
    let l = view_of_replication c.args.self.now in
    let counted : refusals_of_counter_led l ≡ None = search rules in
    ends_settled _ _ _ _ _ _ _ _ _ _ (neither_asks (refusals_of_counter_led l) _ counted c.in_ok-may_take_matching.ensures.passed) c.settle.ensures c.update_matching-done.ensures

pub returns-clause-sound : goal.returns-clause-sound
returns-clause-sound g c =
    let cmp = g.C.NodeId.Ord.cmp in
    let h = c.args.self.now in
    let l = view_of_replication h in
    let unspent : h.output.now.spent ≡ false = c.in_ok-may_take_matching.ensures.unspent in
    let passed : refusals_of_entry cmp c.args.node_id (λ e. refusals_of_acknowledged cmp l.core.state e c.args.inflight_id c.args.matching) l.leader ≡ None = c.in_ok-may_take_matching.ensures.passed in
    settled_led cmp h.config.now _ _ _ _ _ _ _ c.settle.ensures c.update_matching-done.ensures
    (matching_kept cmp g.met.C.NodeId.Ord.total g.met.C.NodeId.NodeId.equal_is_same h.config.now c.args.node_id c.args.inflight_id c.args.matching l passed (c.requires unspent))

pub returns-clause-beside : goal.returns-clause-beside
returns-clause-beside g c =
    let cmp = g.C.NodeId.Ord.cmp in
    let total = g.met.C.NodeId.Ord.total in
    let same = g.met.C.NodeId.NodeId.equal_is_same in
    let h = c.args.self.now in
    let l = view_of_replication h in
    let unspent : h.output.now.spent ≡ false = c.in_ok-may_take_matching.ensures.unspent in
    let passed : refusals_of_entry cmp c.args.node_id (λ e. refusals_of_acknowledged cmp l.core.state e c.args.inflight_id c.args.matching) l.leader ≡ None = c.in_ok-may_take_matching.ensures.passed in
    λ candidate before.
    settled_beside cmp h.config.now _ _ _ _ _ _ candidate _ c.settle.ensures c.update_matching-done.ensures
    (step_is_sound cmp h.config.now (update_matching cmp h.config.now c.args.node_id c.args.matching) l candidate
    (λ k. matching_kept cmp total same h.config.now c.args.node_id c.args.inflight_id c.args.matching l passed k) (λ k. matching_sight cmp total same h.config.now c.args.node_id c.args.matching l) (before unspent))

pub returns-clause-commits : goal.returns-clause-commits
returns-clause-commits g c =
    let cmp = g.C.NodeId.Ord.cmp in
    let h = c.args.self.now in
    let l = view_of_replication h in
    let unspent : h.output.now.spent ≡ false = c.in_ok-may_take_matching.ensures.unspent in
    let passed : refusals_of_entry cmp c.args.node_id (λ e. refusals_of_acknowledged cmp l.core.state e c.args.inflight_id c.args.matching) l.leader ≡ None = c.in_ok-may_take_matching.ensures.passed in
    done_leaves (CommitsLatest cmp l.core.state.committed) _ _ _ _ _ _ _ c.settle.ensures c.update_matching-done.ensures
    (matching_law cmp g.met.C.NodeId.Ord.total g.met.C.NodeId.NodeId.equal_is_same h.config.now c.args.node_id c.args.inflight_id c.args.matching l passed (c.requires unspent))
