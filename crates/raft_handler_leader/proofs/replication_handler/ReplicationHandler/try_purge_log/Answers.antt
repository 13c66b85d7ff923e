use Rattle.std.proofs.Common.{rules, ◌≡◌, false}
use Rattle.raft_handler_leader.specs.Handlers.{view_of_replication}
use Rattle.raft_steps.specs.Replies.{purge_unless_inflight}
use Rattle.raft_steps.proofs.KeptPurge.{purge_unless_kept, purge_unless_sight}
use Rattle.raft_steps.proofs.Settled.{settled_led, settled_beside}
use Rattle.raft_steps.proofs.Sights.{step_is_sound}
use Rattle.raft_handler_leader.proofs.replication_handler.ReplicationHandler.try_purge_log.Goals as goal

pub returns-clause-sound : goal.returns-clause-sound
returns-clause-sound g c =
    let cmp = g.C.NodeId.Ord.cmp in
    let h = c.args.self.now in
    let unspent : h.output.now.spent ≡ false = search rules in
    λ before. settled_led cmp h.config.now _ _ _ _ _ _ _ c.settle.ensures c.purge_unless_inflight-done.ensures
    (purge_unless_kept cmp g.met.C.NodeId.Ord.total g.met.C.NodeId.NodeId.equal_is_same h.config.now (view_of_replication h) (before unspent))

pub returns-clause-beside : goal.returns-clause-beside
returns-clause-beside g c =
    let cmp = g.C.NodeId.Ord.cmp in
    let total = g.met.C.NodeId.Ord.total in
    let same = g.met.C.NodeId.NodeId.equal_is_same in
    let h = c.args.self.now in
    let l = view_of_replication h in
    let unspent : h.output.now.spent ≡ false = search rules in
    λ candidate before.
    settled_beside cmp h.config.now _ _ _ _ _ _ candidate _ c.settle.ensures c.purge_unless_inflight-done.ensures
    (step_is_sound cmp h.config.now (purge_unless_inflight cmp) l candidate
    (λ k. purge_unless_kept cmp total same h.config.now l k) (λ k. purge_unless_sight cmp total same h.config.now l k.sound) (before unspent))
