use Rattle.std.proofs.Common.{rules, ◌≡◌, false, Some}
use Rattle.raft_handler_leader.specs.Handlers.{view_of_replication}
use Rattle.raft_steps.proofs.KeptCommit.{commit_kept, commit_is_sound}
use Rattle.raft_steps.proofs.Settled.{settled_led_core, settled_core}
use Rattle.raft_steps.specs.Parts.{led_machine}
use Rattle.raft_handler_leader.proofs.replication_handler.ReplicationHandler.try_commit_quorum_accepted.Goals as goal

pub returns-clause-sound : goal.returns-clause-sound
returns-clause-sound g c =
    let h = c.args.self.now in
    let unspent : h.output.now.spent ≡ false = search rules in
    settled_led_core g.C.NodeId.Ord.cmp h.config.now _ _ _ _ _ h.leader.now _ c.settle.ensures c.try_commit_quorum_accepted-done.ensures
    (commit_kept g.C.NodeId.Ord.cmp g.met.C.NodeId.Ord.total g.met.C.NodeId.NodeId.equal_is_same h.config.now c.args.granted (view_of_replication h) c.requires.fit (c.requires.sound unspent))

pub returns-clause-beside : goal.returns-clause-beside
returns-clause-beside g c =
    let h = c.args.self.now in
    let unspent : h.output.now.spent ≡ false = search rules in
    λ candidate before.
    settled_core g.C.NodeId.Ord.cmp h.config.now _ _ _ _ _ (Some h.leader.now) candidate _ c.settle.ensures c.try_commit_quorum_accepted-done.ensures
    (commit_is_sound g.C.NodeId.Ord.cmp g.met.C.NodeId.Ord.total g.met.C.NodeId.NodeId.equal_is_same h.config.now c.args.granted (led_machine (view_of_replication h) candidate) c.requires.fit (before unspent))
