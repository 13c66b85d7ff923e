use Rattle.std.proofs.Common.{rules, ◌≡◌, false, None}
use Rattle.raft_engine.specs.Whole.{parts}
use Rattle.raft_steps.specs.Parts.{machine_of, unboxed}
use Rattle.raft_steps.specs.Starts.{refusals_of_startup}
use Rattle.raft_steps.proofs.Room.{may_lead}
use Rattle.raft_steps.proofs.Started.{startup_is_sound}
use Rattle.raft_steps.proofs.Settled.{settled_sound}
use Rattle.raft_engine.proofs.Ended.{ended}
use Rattle.raft_engine.proofs.engine.Engine.startup.Goals as goal

pub startup-done-requires-clause-room : goal.startup-done-requires-clause-room
startup-done-requires-clause-room g c =
    let e = c.args.self.now in
    let unspent : e.output.spent ≡ false = search rules in
    may_lead g.C.NodeId.Ord.cmp g.met.C.NodeId.Ord.total g.met.C.NodeId.NodeId.equal_is_same e.config e.state.vote e.state (unboxed e.leader) (c.requires unspent).sound (search rules)

pub returns-clause-step : goal.returns-clause-step
returns-clause-step g c =
    let e = c.args.self.now in
    let new = c.startup-done.new in
    let unrefused : refusals_of_startup g.C.NodeId.Ord.cmp e.config (parts e) ≡ None = search rules in
    ended (λ q. machine_of new.state q new.leader new.candidate) _ _ _ _ _ _ _ _ c.settle.ensures unrefused c.startup-done.ensures

pub returns-clause-sound : goal.returns-clause-sound
returns-clause-sound g c =
    let e = c.args.self.now in
    let unspent : e.output.spent ≡ false = search rules in
    let unrefused : refusals_of_startup g.C.NodeId.Ord.cmp e.config (parts e) ≡ None = search rules in
    settled_sound g.C.NodeId.Ord.cmp e.config _ _ _ _ _ _ _ _ c.settle.ensures c.startup-done.ensures
    (startup_is_sound g.C.NodeId.Ord.cmp g.met.C.NodeId.Ord.total g.met.C.NodeId.NodeId.equal_is_same g.C.Entry.RaftEntry g.met.C.Entry.RaftEntry.with_id_has e.config (parts e) unrefused (c.requires unspent))
