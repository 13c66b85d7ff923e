use Rattle.std.proofs.Common.{rules, ◌≡◌, subst, false, None}
use Rattle.std.specs.Prelude.{map}
use Rattle.raft_engine.specs.Whole.{parts}
use Rattle.raft_steps.specs.Parts.{machine_of}
use Rattle.raft_steps.specs.RequestRefusals.{refusals_of_append}
use Rattle.raft_steps.proofs.Followed.{append_may}
use Rattle.raft_steps.proofs.KeptFollow.{handle_append_entries_is_sound}
use Rattle.raft_steps.proofs.Room.{log_end}
use Rattle.raft_steps.proofs.Settled.{settled_sound}
use Rattle.raft_engine.proofs.Ended.{ended_with}
use Rattle.raft_engine.proofs.engine.Engine.handle_append_entries.Goals as goal

pub handle_append_entries-done-requires-clause-log : goal.handle_append_entries-done-requires-clause-log
handle_append_entries-done-requires-clause-log g c =
    let e = c.args.self.now in
    let unspent : e.output.spent ≡ false = search rules in
    log_end g.C.NodeId.Ord.cmp e.state (c.requires unspent).sound

pub handle_append_entries-done-requires-clause-room : goal.handle_append_entries-done-requires-clause-room
handle_append_entries-done-requires-clause-room g c =
    let e = c.args.self.now in
    λ _. append_may g.C.NodeId.Ord.cmp e.config c.args.vote.now c.args.prev_log_id (map g.C.Entry.RaftEntry.id_of c.as_slice.result.now) (parts e) c.in_ok-check_append.ensures.passed

pub returns-clause-step : goal.returns-clause-step
returns-clause-step g c =
    let e = c.args.self.now in
    let new = c.handle_append_entries-done.new in
    let unrefused : refusals_of_append g.C.NodeId.Ord.cmp e.config c.args.vote.now c.args.prev_log_id (map g.C.Entry.RaftEntry.id_of c.args.entries.items) (parts e) ≡ None =
    subst (λ es. refusals_of_append g.C.NodeId.Ord.cmp e.config c.args.vote.now c.args.prev_log_id (map g.C.Entry.RaftEntry.id_of es) (parts e) ≡ None) c.as_slice.ensures.value c.in_ok-check_append.ensures.passed in
    ended_with (λ q. machine_of new.state q new.leader new.candidate) _ _ _ _ _ _ _ _ _ c.settle.ensures unrefused
    c.handle_append_entries-done.ensures.answer c.handle_append_entries-done.ensures.step

pub returns-clause-sound : goal.returns-clause-sound
returns-clause-sound g c =
    let e = c.args.self.now in
    let unspent : e.output.spent ≡ false = search rules in
    let unrefused : refusals_of_append g.C.NodeId.Ord.cmp e.config c.args.vote.now c.args.prev_log_id (map g.C.Entry.RaftEntry.id_of c.args.entries.items) (parts e) ≡ None =
    subst (λ es. refusals_of_append g.C.NodeId.Ord.cmp e.config c.args.vote.now c.args.prev_log_id (map g.C.Entry.RaftEntry.id_of es) (parts e) ≡ None) c.as_slice.ensures.value c.in_ok-check_append.ensures.passed in
    settled_sound g.C.NodeId.Ord.cmp e.config _ _ _ _ _ _ _ _ c.settle.ensures c.handle_append_entries-done.ensures.step
    (handle_append_entries_is_sound g.C.NodeId.Ord.cmp g.met.C.NodeId.Ord.total g.met.C.NodeId.NodeId.equal_is_same g.C.Entry.RaftEntry e.config c.args.vote.now c.args.prev_log_id c.args.entries.items c.args.token c.args.now (parts e) unrefused (c.requires unspent))
