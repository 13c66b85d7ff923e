use Rattle.std.proofs.Common.{rules, ◌≡◌, refl, false, None}
use Rattle.std.specs.declared.cmp.Ordering.{Ordering}
use Rattle.raft_state.specs.declared.config.RaftEntry
use Rattle.raft_command.specs.declared.config.EngineConfig.{EngineConfig}
use Rattle.raft_engine.specs.Whole.{parts}
use Rattle.raft_steps.specs.Parts.{Machine, machine_of, unboxed}
use Rattle.raft_steps.specs.Starts.{is_settled, leader_step_down, refusals_of_step_down}
use Rattle.raft_steps.proofs.Room.{may_lead}
use Rattle.raft_steps.proofs.Started.{step_down_is_sound}
use Rattle.raft_steps.proofs.Settled.{settled_sound}
use Rattle.raft_engine.proofs.Ended.{ended}
use Rattle.raft_steps.proofs.Room.{log_end}
use Rattle.raft_engine.proofs.engine.Engine.leader_step_down.Goals as goal

module _ {C NID N E D R S : Type 0} (cmp : NID → NID → Ordering) (entry : RaftEntry.Ghosts E NID N) (config : EngineConfig NID) where
  -- nothing changes while the membership isn't committed
  unsettled : (m : Machine C NID N E D R S) → is_settled cmp m.core.state ≡ false → m ≡ leader_step_down cmp entry config m
  unfolding leader_step_down
  unsettled m e = rw e refl

  unsettled_asks : (m : Machine C NID N E D R S) → is_settled cmp m.core.state ≡ false → m.core.output.spent ≡ false → refusals_of_step_down cmp config m ≡ None
  unsettled_asks m e f = rw (e, f) refl

pub returns-then-not-is_settled-clause-step : goal.returns-then-not-is_settled-clause-step
returns-then-not-is_settled-clause-step g c =
    let e = c.args.self.now in
    let unspent : e.output.spent ≡ false = search rules in
    let unsettles : is_settled g.C.NodeId.Ord.cmp e.state ≡ false = search rules in
    (unsettled_asks g.C.NodeId.Ord.cmp g.C.Entry.RaftEntry e.config (parts e) unsettles unspent, unsettled g.C.NodeId.Ord.cmp g.C.Entry.RaftEntry e.config (parts e) unsettles)

pub step_down-done-requires-clause-room : goal.step_down-done-requires-clause-room
step_down-done-requires-clause-room g c =
    let e = c.args.self.now in
    let unspent : e.output.spent ≡ false = search rules in
    may_lead g.C.NodeId.Ord.cmp g.met.C.NodeId.Ord.total g.met.C.NodeId.NodeId.equal_is_same e.config e.state.vote e.state (unboxed e.leader) (c.requires.sound unspent).sound (search rules)

pub step_down-done-requires-clause-log : goal.step_down-done-requires-clause-log
step_down-done-requires-clause-log g c =
    let e = c.args.self.now in
    let unspent : e.output.spent ≡ false = search rules in
    log_end g.C.NodeId.Ord.cmp e.state (c.requires.sound unspent).sound

pub returns-clause-step : goal.returns-clause-step
returns-clause-step g c =
    let e = c.args.self.now in
    let new = c.step_down-done.new in
    let unrefused : refusals_of_step_down g.C.NodeId.Ord.cmp e.config (parts e) ≡ None = search rules in
    ended (λ q. machine_of new.state q new.leader new.candidate) _ _ _ _ _ _ _ _ c.settle.ensures unrefused c.step_down-done.ensures

pub returns-clause-sound : goal.returns-clause-sound
returns-clause-sound g c =
    let e = c.args.self.now in
    let unspent : e.output.spent ≡ false = search rules in
    let unrefused : refusals_of_step_down g.C.NodeId.Ord.cmp e.config (parts e) ≡ None = search rules in
    settled_sound g.C.NodeId.Ord.cmp e.config _ _ _ _ _ _ _ _ c.settle.ensures c.step_down-done.ensures
    (step_down_is_sound g.C.NodeId.Ord.cmp g.met.C.NodeId.Ord.total g.met.C.NodeId.NodeId.equal_is_same g.C.Entry.RaftEntry g.met.C.Entry.RaftEntry.with_id_has e.config (parts e) unrefused (c.requires.sound unspent))
