use Rattle.std.proofs.Common.{rules, ◌≡◌, false}
use Rattle.raft_steps.specs.Parts.{unboxed}
use Rattle.raft_engine.specs.Whole.{parts}
use Rattle.raft_steps.proofs.KeptEngine.{trigger_is_sound}
use Rattle.raft_steps.proofs.Settled.{settled_core}
use Rattle.raft_engine.proofs.engine.Engine.trigger_snapshot.Goals as goal

pub returns-clause-sound : goal.returns-clause-sound
returns-clause-sound g c =
    let e = c.args.self.now in
    let unspent : e.output.spent ≡ false = search rules in
    settled_core g.C.NodeId.Ord.cmp e.config _ _ _ _ _ (unboxed e.leader) e.candidate _ c.settle.ensures c.trigger_snapshot-done.ensures.step
    (trigger_is_sound g.C.NodeId.Ord.cmp g.met.C.NodeId.Ord.total g.met.C.NodeId.NodeId.equal_is_same e.config (parts e) (c.requires unspent))

pub returns-in_err-settle-clause-sound : goal.returns-in_err-settle-clause-sound
returns-in_err-settle-clause-sound g c =
    let e = c.args.self.now in
    let unspent : e.output.spent ≡ false = search rules in
    settled_core g.C.NodeId.Ord.cmp e.config _ _ _ _ _ (unboxed e.leader) e.candidate _ c.settle.ensures c.trigger_snapshot-done.ensures.step
    (trigger_is_sound g.C.NodeId.Ord.cmp g.met.C.NodeId.Ord.total g.met.C.NodeId.NodeId.equal_is_same e.config (parts e) (c.requires unspent))
