use Rattle.std.proofs.Common.{rules, ◌≡◌, false, None}
use Rattle.raft_steps.specs.Parts.{unboxed}
use Rattle.raft_steps.proofs.Room.{may_lead}
use Rattle.raft_handler_vote.specs.Handlers.{view_of_vote}
use Rattle.raft_steps.specs.Refusals.{refusals_of_lead}
use Rattle.raft_steps.proofs.KeptEngine.{internal_kept}
use Rattle.raft_steps.proofs.Settled.{settled_sound}
use Rattle.raft_handler_vote.proofs.vote_handler.VoteHandler.update_internal_server_state.Goals as goal

pub update_internal_server_state-done-requires-clause-room : goal.update_internal_server_state-done-requires-clause-room
update_internal_server_state-done-requires-clause-room g c =
    let unspent : c.args.self.now.output.now.spent ≡ false = search rules in
    may_lead g.C.NodeId.Ord.cmp g.met.C.NodeId.Ord.total g.met.C.NodeId.NodeId.equal_is_same c.args.self.now.config.now c.args.self.now.state.now.vote c.args.self.now.state.now
    (unboxed c.args.self.now.leader.now) (c.requires unspent).sound (search rules)

pub returns-clause-sound : goal.returns-clause-sound
returns-clause-sound g c =
    let h = c.args.self.now in
    let unspent : h.output.now.spent ≡ false = search rules in
    let unrefused : refusals_of_lead g.C.NodeId.Ord.cmp h.config.now (view_of_vote h) ≡ None = search rules in
    settled_sound g.C.NodeId.Ord.cmp h.config.now _ _ _ _ _ _ _ _ c.settle.ensures c.update_internal_server_state-done.ensures
    (internal_kept g.C.NodeId.Ord.cmp g.met.C.NodeId.Ord.total g.met.C.NodeId.NodeId.equal_is_same g.C.Entry.RaftEntry g.met.C.Entry.RaftEntry.with_id_has h.config.now (view_of_vote h) unrefused (c.requires unspent))
