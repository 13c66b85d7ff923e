use Rattle.std.proofs.Common.{sym, subst}
use Rattle.raft_handler_common.specs.Handlers.{view_of_snapshot}
use Rattle.raft_steps.specs.Invariants.{IsSound}
use Rattle.raft_steps.proofs.KeptPurge.{recorded_is_sound}
use Rattle.raft_handler_common.proofs.snapshot_handler.SnapshotHandler.update_snapshot.Goals as goal

pub returns-clause-sound : goal.returns-clause-sound
returns-clause-sound g c =
    let cmp = g.C.NodeId.Ord.cmp in
    let h = c.args.self.now in
    λ config leader candidate before unspent.
    subst (λ k. IsSound cmp config (record { core = k; leader = leader; candidate = candidate })) (sym c.update_snapshot.ensures.step)
    (recorded_is_sound cmp g.met.C.NodeId.Ord.total g.met.C.NodeId.NodeId.equal_is_same config c.args.meta (record { core = view_of_snapshot h; leader = leader; candidate = candidate })
    c.requires.fit c.requires.committed (before unspent))
