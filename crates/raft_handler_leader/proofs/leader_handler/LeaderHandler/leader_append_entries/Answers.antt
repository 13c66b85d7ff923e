use Rattle.std.proofs.Common.{rules, ◌≡◌, false, None, length, refl}
use Rattle.raft_handler_leader.specs.Handlers.{view_of_leader}
use Rattle.raft_steps.specs.Refusals.{refusals_of_propose}
use Rattle.raft_steps.proofs.Counted.{counted_twice, counted_room}
use Rattle.raft_steps.proofs.KeptCommit.{leader_append_kept, leader_append_is_sound}
use Rattle.raft_steps.proofs.Settled.{settled_led, settled_beside}
use Rattle.raft_steps.specs.Parts.{led_machine}
use Rattle.raft_handler_leader.proofs.Settling.{ends_settled}
use Rattle.raft_handler_leader.proofs.leader_handler.LeaderHandler.leader_append_entries.Goals as goal

pub leader_append_entries-done-requires-clause-send : goal.leader_append_entries-done-requires-clause-send
leader_append_entries-done-requires-clause-send g c =
    let h = c.args.self.now in
    let unspent : h.output.now.spent ≡ false = search rules in
    counted_twice g.C.NodeId.Ord.cmp h.config.now (view_of_leader h) (c.requires.sound unspent) (search rules)

pub leader_append_entries-done-requires-clause-room : goal.leader_append_entries-done-requires-clause-room
leader_append_entries-done-requires-clause-room g c = counted_room _ (search rules)

pub returns-clause-step : goal.returns-clause-step
returns-clause-step g c =
    let unrefused : refusals_of_propose (length c.args.entries.items) (view_of_leader c.args.self.now) ≡ None = search rules in
    ends_settled _ _ _ _ _ _ _ _ _ _ unrefused c.settle.ensures c.leader_append_entries-done.ensures

pub returns-clause-sound : goal.returns-clause-sound
returns-clause-sound g c =
    let h = c.args.self.now in
    let unspent : h.output.now.spent ≡ false = search rules in
    let unrefused : refusals_of_propose (length c.args.entries.items) (view_of_leader h) ≡ None = search rules in
    settled_led g.C.NodeId.Ord.cmp h.config.now _ _ _ _ _ _ _ c.settle.ensures c.leader_append_entries-done.ensures
    (leader_append_kept g.C.NodeId.Ord.cmp g.met.C.NodeId.Ord.total g.met.C.NodeId.NodeId.equal_is_same g.C.Entry.RaftEntry g.met.C.Entry.RaftEntry.with_id_has h.config.now c.args.entries.items (view_of_leader h) c.requires.may unrefused (c.requires.sound unspent))

pub returns-clause-beside : goal.returns-clause-beside
returns-clause-beside g c =
    let h = c.args.self.now in
    let unspent : h.output.now.spent ≡ false = search rules in
    let unrefused : refusals_of_propose (length c.args.entries.items) (view_of_leader h) ≡ None = search rules in
    λ candidate before.
    settled_beside g.C.NodeId.Ord.cmp h.config.now _ _ _ _ _ _ candidate _ c.settle.ensures c.leader_append_entries-done.ensures
    (leader_append_is_sound g.C.NodeId.Ord.cmp g.met.C.NodeId.Ord.total g.met.C.NodeId.NodeId.equal_is_same g.C.Entry.RaftEntry g.met.C.Entry.RaftEntry.with_id_has h.config.now c.args.entries.items h.leader.now (led_machine (view_of_leader h) candidate) refl c.requires.may unrefused (before unspent))
