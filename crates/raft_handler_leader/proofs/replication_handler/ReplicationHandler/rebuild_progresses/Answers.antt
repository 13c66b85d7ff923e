use Rattle.std.proofs.Common.{rules, ◌≡◌, false}
use Rattle.raft_handler_leader.specs.Handlers.{view_of_replication}
use Rattle.raft_steps.proofs.KeptLead.{progresses_kept}
use Rattle.raft_steps.proofs.Settled.{settled_led, settled_beside}
use Rattle.raft_steps.specs.Parts.{led_machine}
use Rattle.raft_steps.proofs.KeptEngine.{progresses_is_sound}
use Rattle.raft_handler_leader.proofs.replication_handler.ReplicationHandler.rebuild_progresses.Goals as goal

pub returns-clause-sound : goal.returns-clause-sound
returns-clause-sound g c =
    let h = c.args.self.now in
    let unspent : h.output.now.spent ≡ false = search rules in
    settled_led g.C.NodeId.Ord.cmp h.config.now _ _ _ _ _ _ _ c.settle.ensures c.rebuild_progresses-done.ensures
    (progresses_kept g.C.NodeId.Ord.cmp g.met.C.NodeId.Ord.total g.met.C.NodeId.NodeId.equal_is_same h.config.now h.state.now.em.membership (view_of_replication h) (c.requires unspent).sound (c.requires unspent).leader_fits)

pub returns-clause-beside : goal.returns-clause-beside
returns-clause-beside g c =
    let h = c.args.self.now in
    let unspent : h.output.now.spent ≡ false = search rules in
    λ candidate before.
    settled_beside g.C.NodeId.Ord.cmp h.config.now _ _ _ _ _ _ candidate _ c.settle.ensures c.rebuild_progresses-done.ensures
    (progresses_is_sound g.C.NodeId.Ord.cmp g.met.C.NodeId.Ord.total g.met.C.NodeId.NodeId.equal_is_same h.config.now (led_machine (view_of_replication h) candidate) (before unspent))
