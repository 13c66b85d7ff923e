use Rattle.std.proofs.Common.{rules, ◌≡◌, false, None, ap}
use Rattle.raft_steps.specs.Refusals.{refusals_of_initialize}
use Rattle.raft_steps.specs.Parts.{machine_of, unboxed}
use Rattle.raft_engine.specs.Whole.{parts}
use Rattle.raft_steps.proofs.KeptEngine.{initialize_is_sound}
use Rattle.raft_steps.proofs.Settled.{settled_sound}
use Rattle.raft_engine.proofs.Ended.{ended}
use Rattle.raft_engine.proofs.engine.Engine.initialize.Goals as goal

pub returns-clause-step : goal.returns-clause-step
returns-clause-step g c =
    let e = c.args.self.now in
    let new = c.initialize-done.new in
    let unrefused : refusals_of_initialize g.C.NodeId.Ord.cmp g.C.Entry.RaftEntry e.config g.C.NodeId.NodeId.default_id c.args.entry (parts e) ≡ None = search rules in
    ended (λ q. machine_of new.state q new.leader new.candidate) _ _ _ _ _ _ _ _ c.settle.ensures unrefused c.initialize-done.ensures

pub returns-clause-sound : goal.returns-clause-sound
returns-clause-sound g c =
    let e = c.args.self.now in
    let unspent : e.output.spent ≡ false = search rules in
    let unrefused : refusals_of_initialize g.C.NodeId.Ord.cmp g.C.Entry.RaftEntry e.config g.C.NodeId.NodeId.default_id c.args.entry (parts e) ≡ None = search rules in
    settled_sound g.C.NodeId.Ord.cmp e.config _ _ _ _ _ _ _ _ c.settle.ensures c.initialize-done.ensures
    (initialize_is_sound g.C.NodeId.Ord.cmp g.met.C.NodeId.Ord.total g.met.C.NodeId.NodeId.equal_is_same g.C.Entry.RaftEntry g.met.C.Entry.RaftEntry.with_id_has e.config
    g.C.NodeId.NodeId.default_id c.args.entry c.args.now (parts e) (ap unboxed c.requires.no_leader) unrefused (c.requires.sound unspent).sound)
