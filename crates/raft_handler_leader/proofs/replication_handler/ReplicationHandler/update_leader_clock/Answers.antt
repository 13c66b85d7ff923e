use Rattle.std.proofs.Common.{sym, subst}
use Rattle.raft_handler_leader.specs.Handlers.{view_of_replication}
use Rattle.raft_steps.specs.Invariants.{IsSound, IsSoundLed}
use Rattle.raft_steps.specs.Parts.{led_of, led_machine}
use Rattle.raft_steps.specs.Replies.{update_leader_clock}
use Rattle.raft_steps.proofs.KeptReplies.{clock_kept}
use Rattle.raft_steps.proofs.Sights.{sight_self, step_is_sound}
use Rattle.raft_handler_leader.proofs.replication_handler.ReplicationHandler.update_leader_clock.Goals as goal

pub returns-clause-sound : goal.returns-clause-sound
unfolding update_leader_clock
returns-clause-sound g c =
    let cmp = g.C.NodeId.Ord.cmp in
    let h = c.args.self.now in
    λ before unspent.
    subst (λ l. IsSoundLed cmp h.config.now (led_of l h.state.now h.output.now)) (sym c.raise_clock.ensures)
    (clock_kept cmp g.met.C.NodeId.Ord.total g.met.C.NodeId.NodeId.equal_is_same h.config.now c.args.node_id c.args.time (view_of_replication h) (before unspent))

pub returns-clause-beside : goal.returns-clause-beside
unfolding update_leader_clock
returns-clause-beside g c =
    let cmp = g.C.NodeId.Ord.cmp in
    let h = c.args.self.now in
    let l = view_of_replication h in
    λ candidate before unspent.
    subst (λ q. IsSound cmp h.config.now (led_machine (led_of q h.state.now h.output.now) candidate)) (sym c.raise_clock.ensures)
    (step_is_sound cmp h.config.now (update_leader_clock cmp c.args.node_id c.args.time) l candidate
    (λ k. clock_kept cmp g.met.C.NodeId.Ord.total g.met.C.NodeId.NodeId.equal_is_same h.config.now c.args.node_id c.args.time l k) (λ k. sight_self l.core.state) (before unspent))
