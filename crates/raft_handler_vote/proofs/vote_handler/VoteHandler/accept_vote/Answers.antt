use Rattle.std.proofs.Common.{rules, ◌≡◌, false, None}
use Rattle.raft_steps.specs.Refusals.{refusals_of_update_vote}
use Rattle.raft_handler_vote.specs.Handlers.{view_of_vote}
use Rattle.raft_steps.specs.Parts.{unboxed}
use Rattle.raft_steps.proofs.KeptEngine.{accept_vote_kept}
use Rattle.raft_steps.proofs.Room.{may_take}
use Rattle.raft_steps.proofs.Settled.{settled_if}
use Rattle.raft_handler_vote.proofs.vote_handler.VoteHandler.accept_vote.Goals as goal

pub accept_vote-done-requires-clause-room : goal.accept_vote-done-requires-clause-room
accept_vote-done-requires-clause-room g c =
    let unspent : c.args.self.now.output.now.spent ≡ false = search rules in
    may_take g.C.NodeId.Ord.cmp g.met.C.NodeId.Ord.total g.met.C.NodeId.NodeId.equal_is_same c.args.self.now.config.now c.args.vote.now c.args.self.now.state.now
    (unboxed c.args.self.now.leader.now) (c.requires.sound unspent).sound (search rules)

pub returns-clause-sound : goal.returns-clause-sound
returns-clause-sound g c =
    let h = c.args.self.now in
    let unspent : h.output.now.spent ≡ false = search rules in
    let unrefused : refusals_of_update_vote g.C.NodeId.Ord.cmp h.config.now c.args.vote.now (view_of_vote h) ≡ None = search rules in
    settled_if g.C.NodeId.Ord.cmp h.config.now _ _ _ _ _ _ _ _ c.settle.ensures c.accept_vote-done.ensures
    (λ answer accepts. accept_vote_kept g.C.NodeId.Ord.cmp g.met.C.NodeId.Ord.total g.met.C.NodeId.NodeId.equal_is_same g.C.Entry.RaftEntry g.met.C.Entry.RaftEntry.with_id_has h.config.now
    _ c.args.vote.now c.args.token c.args.now answer (view_of_vote h) _ unrefused accepts (c.requires.sound unspent))
