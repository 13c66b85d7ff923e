use Rattle.std.proofs.Common.{rules, ◌≡◌, false}
use Rattle.raft_steps.specs.Parts.{unboxed}
use Rattle.raft_engine.specs.Whole.{parts}
use Rattle.raft_steps.specs.SnapshotCalls.{purge_where_free}
use Rattle.raft_steps.proofs.KeptPurge.{purge_where_free_is_sound}
use Rattle.raft_steps.proofs.Settled.{settled_core}
use Rattle.raft_engine.proofs.engine.Engine.try_purge_log.Goals as goal

pub returns-clause-sound : goal.returns-clause-sound
unfolding purge_where_free
returns-clause-sound g c =
    let e = c.args.self.now in
    let unspent : e.output.spent ≡ false = search rules in
    settled_core g.C.NodeId.Ord.cmp e.config _ _ _ _ _ (unboxed e.leader) e.candidate _ c.settle.ensures c.try_purge_log-done.ensures
    (purge_where_free_is_sound g.C.NodeId.Ord.cmp g.met.C.NodeId.Ord.total g.met.C.NodeId.NodeId.equal_is_same e.config (parts e) (c.requires unspent))
