use Rattle.std.proofs.Common.{◌≡◌, take}
use Rattle.std.specs.List.{fold}
use Rattle.raft_steps.specs.FollowingHandler.{with_membership_of}
use Rattle.raft_handler_follower.proofs.following_handler.append_memberships.Given as goal

abbrev pub invariant-loop-entry : goal.invariant-loop-entry
invariant-loop-entry g l =
    (l.state.vote ≡ l.initial.state.vote)
    × (l.state.ids ≡ l.initial.state.ids)
    × (l.state ≡ fold (with_membership_of g.C.Entry.RaftEntry) l.initial.state (take l.entry-index l.entries))
