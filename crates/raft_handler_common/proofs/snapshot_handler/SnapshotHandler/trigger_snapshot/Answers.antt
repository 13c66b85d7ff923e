use Rattle.std.proofs.Common.{rules, ◌≡◌, false}
use Rattle.raft_handler_common.specs.Handlers.{view_of_snapshot}
use Rattle.raft_steps.proofs.KeptEngine.{trigger_is_sound}
use Rattle.raft_steps.proofs.Settled.{settled_core}
use Rattle.raft_handler_common.proofs.snapshot_handler.SnapshotHandler.trigger_snapshot.Goals as goal

pub returns-clause-sound : goal.returns-clause-sound
returns-clause-sound g c =
    let h = c.args.self.now in
    let unspent : h.output.now.spent ≡ false = search rules in
    λ config leader candidate before.
    settled_core g.C.NodeId.Ord.cmp config _ _ _ _ _ leader candidate _ c.settle.ensures c.trigger_snapshot-done.ensures.step
    (trigger_is_sound g.C.NodeId.Ord.cmp g.met.C.NodeId.Ord.total g.met.C.NodeId.NodeId.equal_is_same config
    (record { core = view_of_snapshot h; leader = leader; candidate = candidate }) (before unspent))

pub returns-in_err-settle-clause-sound : goal.returns-in_err-settle-clause-sound
returns-in_err-settle-clause-sound g c =
    let h = c.args.self.now in
    let unspent : h.output.now.spent ≡ false = search rules in
    λ config leader candidate before.
    settled_core g.C.NodeId.Ord.cmp config _ _ _ _ _ leader candidate _ c.settle.ensures c.trigger_snapshot-done.ensures.step
    (trigger_is_sound g.C.NodeId.Ord.cmp g.met.C.NodeId.Ord.total g.met.C.NodeId.NodeId.equal_is_same config
    (record { core = view_of_snapshot h; leader = leader; candidate = candidate }) (before unspent))
