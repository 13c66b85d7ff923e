use Rattle.std.proofs.Common.{◌≡◌, take, None}
use Rattle.std.specs.List.{fold}
use Rattle.raft_steps.specs.LeaderHandler.{later_membership}
use Rattle.raft_handler_leader.proofs.leader_handler.last_membership.Given as goal

abbrev pub invariant-loop-entry : goal.invariant-loop-entry
invariant-loop-entry g l = l.last ≡ fold (later_membership g.C.Entry.RaftEntry) None (take l.entry-index l.entries)
