use Rattle.std.proofs.Common.{rules, ◌≡◌, false}
use Rattle.raft_steps.specs.Parts.{unboxed}
use Rattle.raft_engine.specs.Whole.{parts}
use Rattle.raft_steps.specs.SnapshotCalls.{trigger_purge_log}
use Rattle.raft_steps.proofs.KeptPurge.{triggered_is_sound}
use Rattle.raft_steps.proofs.Settled.{settled_core}
use Rattle.raft_engine.proofs.engine.Engine.trigger_purge_log.Goals as goal

pub returns-clause-sound : goal.returns-clause-sound
unfolding trigger_purge_log
returns-clause-sound g c =
    let e = c.args.self.now in
    let unspent : e.output.spent ≡ false = search rules in
    settled_core g.C.NodeId.Ord.cmp e.config _ _ _ _ _ (unboxed e.leader) e.candidate _ c.settle.ensures c.trigger_purge_log-done.ensures
    (triggered_is_sound g.C.NodeId.Ord.cmp g.met.C.NodeId.Ord.total g.met.C.NodeId.NodeId.equal_is_same e.config c.args.index (parts e) (c.requires unspent))
