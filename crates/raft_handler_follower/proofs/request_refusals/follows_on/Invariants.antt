use Rattle.std.proofs.Common.{◌≡◌, drop, map}
use Rattle.raft_state.specs.Consecutive.{follows_on}
use Rattle.raft_handler_follower.proofs.request_refusals.follows_on.Given as goal

abbrev pub invariant-loop-entry : goal.invariant-loop-entry
invariant-loop-entry g l =
    follows_on g.C.NodeId.Ord.cmp l.prev (map g.C.Entry.RaftEntry.id_of l.entries)
    ≡ follows_on g.C.NodeId.Ord.cmp l.before (map g.C.Entry.RaftEntry.id_of (drop l.entry-index l.entries))
