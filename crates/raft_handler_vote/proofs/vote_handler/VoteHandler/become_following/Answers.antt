use Rattle.std.proofs.Common.{rules, ◌≡◌, false}
use Rattle.raft_handler_vote.specs.Handlers.{view_of_vote}
use Rattle.raft_steps.proofs.KeptEngine.{following_is_sound}
use Rattle.raft_steps.proofs.Settled.{settled_sound}
use Rattle.raft_handler_vote.proofs.vote_handler.VoteHandler.become_following.Goals as goal

pub returns-clause-sound : goal.returns-clause-sound
returns-clause-sound g c =
    let h = c.args.self.now in
    let unspent : h.output.now.spent ≡ false = search rules in
    λ before. settled_sound g.C.NodeId.Ord.cmp h.config.now _ _ _ _ _ _ _ _ c.settle.ensures c.become_following-done.ensures
    (following_is_sound g.C.NodeId.Ord.cmp g.met.C.NodeId.Ord.total g.met.C.NodeId.NodeId.equal_is_same h.config.now (view_of_vote h) (before unspent))
