use Rattle.std.proofs.Common.{◌≡◌, drop, is_some}
use Rattle.std.specs.List.{list_any}
use Rattle.raft_handler_follower.proofs.following_handler.has_no_membership.Given as goal

abbrev pub invariant-loop-entry : goal.invariant-loop-entry
invariant-loop-entry g l =
    list_any (λ e. is_some (g.C.Entry.RaftEntry.membership_of e)) l.entries ≡ list_any (λ e. is_some (g.C.Entry.RaftEntry.membership_of e)) (drop l.entry-index l.entries)
