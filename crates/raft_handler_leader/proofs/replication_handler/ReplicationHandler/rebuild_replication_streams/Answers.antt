use Rattle.std.proofs.Common.{rules, ◌≡◌, false}
use Rattle.raft_handler_leader.specs.Handlers.{view_of_replication}
use Rattle.raft_steps.proofs.KeptLead.{rebuild_kept}
use Rattle.raft_steps.proofs.Settled.{settled_led, settled_beside}
use Rattle.raft_steps.specs.Parts.{led_machine}
use Rattle.raft_steps.proofs.KeptEngine.{rebuild_is_sound}
use Rattle.raft_handler_leader.proofs.replication_handler.ReplicationHandler.rebuild_replication_streams.Goals as goal

pub returns-clause-sound : goal.returns-clause-sound
returns-clause-sound g c =
    let h = c.args.self.now in
    let unspent : h.output.now.spent ≡ false = search rules in
    λ before. settled_led g.C.NodeId.Ord.cmp h.config.now _ _ _ _ _ _ _ c.settle.ensures c.rebuild_replication_streams-done.ensures.step
    (rebuild_kept g.C.NodeId.Ord.cmp g.met.C.NodeId.Ord.total g.met.C.NodeId.NodeId.equal_is_same h.config.now (view_of_replication h) (before unspent))

pub returns-clause-beside : goal.returns-clause-beside
returns-clause-beside g c =
    let h = c.args.self.now in
    let unspent : h.output.now.spent ≡ false = search rules in
    λ candidate before.
    settled_beside g.C.NodeId.Ord.cmp h.config.now _ _ _ _ _ _ candidate _ c.settle.ensures c.rebuild_replication_streams-done.ensures.step
    (rebuild_is_sound g.C.NodeId.Ord.cmp g.met.C.NodeId.Ord.total g.met.C.NodeId.NodeId.equal_is_same h.config.now (led_machine (view_of_replication h) candidate) (before unspent))
