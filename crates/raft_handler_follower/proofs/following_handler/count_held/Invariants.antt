use Rattle.std.proofs.Common.{◌≡◌, ◌+◌, drop}
use Rattle.std.specs.List.{prefix_len}
use Rattle.raft_steps.specs.FollowingHandler.{is_held}
use Rattle.raft_handler_follower.proofs.following_handler.count_held.Given as goal

abbrev pub invariant-loop-place : goal.invariant-loop-place
invariant-loop-place g l =
    prefix_len (is_held g.C.NodeId.Ord.cmp g.C.Entry.RaftEntry l.state) l.entries
    ≡ l.place + prefix_len (is_held g.C.NodeId.Ord.cmp g.C.Entry.RaftEntry l.state) (drop l.place l.entries)
