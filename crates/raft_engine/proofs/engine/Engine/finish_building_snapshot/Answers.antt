use Rattle.std.proofs.Common.{rules, ◌≡◌, false, sym, subst}
use Rattle.raft_steps.specs.Invariants.{IsSound}
use Rattle.raft_steps.specs.Parts.{core_of, unboxed}
use Rattle.raft_engine.specs.Whole.{parts}
use Rattle.raft_steps.specs.SnapshotHandler.{is_newer_snapshot}
use Rattle.raft_steps.proofs.KeptPurge.{finish_older, finished_is_sound, finishing_is_sound}
use Rattle.raft_steps.proofs.Settled.{settled_core}
use Rattle.raft_engine.proofs.engine.Engine.finish_building_snapshot.Goals as goal

pub returns-then-not-update_snapshot-clause-step : goal.returns-then-not-update_snapshot-clause-step
returns-then-not-update_snapshot-clause-step g c =
    let cmp = g.C.NodeId.Ord.cmp in
    let e = c.args.self.now in
    let older : is_newer_snapshot cmp e.state c.args.meta ≡ false = search rules in
    (search rules, (sym older, finish_older cmp g.met.C.NodeId.Ord.total g.met.C.NodeId.NodeId.equal_is_same e.config c.args.meta (parts e) (core_of c.update_snapshot.new.state e.output) older c.update_snapshot.ensures.step))

pub returns-then-not-update_snapshot-clause-sound : goal.returns-then-not-update_snapshot-clause-sound
returns-then-not-update_snapshot-clause-sound g c =
    let cmp = g.C.NodeId.Ord.cmp in
    let total = g.met.C.NodeId.Ord.total in
    let same = g.met.C.NodeId.NodeId.equal_is_same in
    let e = c.args.self.now in
    let older : is_newer_snapshot cmp e.state c.args.meta ≡ false = search rules in
    λ unspent.
    subst (λ m. IsSound cmp e.config m) (sym (finish_older cmp total same e.config c.args.meta (parts e) (core_of c.update_snapshot.new.state e.output) older c.update_snapshot.ensures.step))
    (finished_is_sound cmp total same e.config c.args.meta (parts e) c.requires.fit c.requires.committed (c.requires.sound unspent))

pub returns-in_err-settle-clause-sound : goal.returns-in_err-settle-clause-sound
returns-in_err-settle-clause-sound g c =
    let e = c.args.self.now in
    let unspent : e.output.spent ≡ false = search rules in
    settled_core g.C.NodeId.Ord.cmp e.config _ _ _ _ _ (unboxed e.leader) e.candidate _ c.settle.ensures c.try_purge_log-done.ensures
    (finishing_is_sound g.C.NodeId.Ord.cmp g.met.C.NodeId.Ord.total g.met.C.NodeId.NodeId.equal_is_same e.config c.args.meta (parts e)
    (core_of c.update_snapshot.new.state e.output) (core_of c.schedule_policy_based_purge.new.state e.output) c.update_snapshot.ensures.step c.schedule_policy_based_purge.ensures
    c.requires.fit c.requires.committed (c.requires.sound unspent))

pub returns-clause-sound : goal.returns-clause-sound
returns-clause-sound g c =
    let e = c.args.self.now in
    let unspent : e.output.spent ≡ false = search rules in
    settled_core g.C.NodeId.Ord.cmp e.config _ _ _ _ _ (unboxed e.leader) e.candidate _ c.settle.ensures c.try_purge_log-done.ensures
    (finishing_is_sound g.C.NodeId.Ord.cmp g.met.C.NodeId.Ord.total g.met.C.NodeId.NodeId.equal_is_same e.config c.args.meta (parts e)
    (core_of c.update_snapshot.new.state e.output) (core_of c.schedule_policy_based_purge.new.state e.output) c.update_snapshot.ensures.step c.schedule_policy_based_purge.ensures
    c.requires.fit c.requires.committed (c.requires.sound unspent))

pub returns-clause-free : goal.returns-clause-free
returns-clause-free g c = search rules
