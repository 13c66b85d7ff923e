use Rattle.std.proofs.Common.{rules, sym, subst, ◌≡◌, None}
use Rattle.raft_progress_entry.specs.Entry.{refusals_of_conflicted}
use Rattle.raft_handler_leader.specs.Handlers.{view_of_replication}
use Rattle.raft_steps.specs.Invariants.{IsSound, IsSoundLed}
use Rattle.raft_steps.specs.Parts.{led_machine}
use Rattle.raft_steps.specs.Replies.{update_conflicting}
use Rattle.raft_steps.specs.ReplyRefusals.{refusals_of_entry}
use Rattle.raft_steps.proofs.KeptReplies.{conflicting_kept, conflicting_sight}
use Rattle.raft_steps.proofs.Sights.{step_is_sound}
use Rattle.raft_handler_leader.proofs.replication_handler.ReplicationHandler.update_conflicting.Goals as goal

pub returns-clause-sound : goal.returns-clause-sound
returns-clause-sound g c =
    let cmp = g.C.NodeId.Ord.cmp in
    let h = c.args.self.now in
    let l = view_of_replication h in
    let passed : refusals_of_entry {N = g.row.C-Node.Denot} cmp c.args.target (λ e. refusals_of_conflicted e c.args.inflight_id c.args.conflict.index) l.leader ≡ None = c.in_ok-check_conflicting.ensures.passed in
    λ before unspent.
    subst (λ n. IsSoundLed cmp h.config.now n) (sym c.update_conflicting.ensures)
    (conflicting_kept cmp g.met.C.NodeId.Ord.total g.met.C.NodeId.NodeId.equal_is_same h.config.now c.args.target c.args.inflight_id c.args.conflict l passed (before unspent))

pub returns-clause-beside : goal.returns-clause-beside
returns-clause-beside g c =
    let cmp = g.C.NodeId.Ord.cmp in
    let total = g.met.C.NodeId.Ord.total in
    let same = g.met.C.NodeId.NodeId.equal_is_same in
    let h = c.args.self.now in
    let l = view_of_replication h in
    let passed : refusals_of_entry {N = g.row.C-Node.Denot} cmp c.args.target (λ e. refusals_of_conflicted e c.args.inflight_id c.args.conflict.index) l.leader ≡ None = c.in_ok-check_conflicting.ensures.passed in
    λ candidate before unspent.
    subst (λ n. IsSound cmp h.config.now (led_machine n candidate)) (sym c.update_conflicting.ensures)
    (step_is_sound cmp h.config.now (update_conflicting cmp c.args.target c.args.inflight_id c.args.conflict) l candidate
    (λ k. conflicting_kept cmp total same h.config.now c.args.target c.args.inflight_id c.args.conflict l passed k)
    (λ k. conflicting_sight cmp total same h.config.now c.args.target c.args.inflight_id c.args.conflict l) (before unspent))
