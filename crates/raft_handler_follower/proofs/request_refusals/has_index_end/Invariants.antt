use Rattle.std.proofs.Common.{◌≡◌, drop}
use Rattle.std.specs.List.{list_any}
use Rattle.raft_steps.specs.Refusals.{is_at_end}
use Rattle.raft_handler_follower.proofs.request_refusals.has_index_end.Given as goal

abbrev pub invariant-loop-entry : goal.invariant-loop-entry
invariant-loop-entry g l =
    list_any (λ e. is_at_end (g.C.Entry.RaftEntry.id_of e)) l.entries ≡ list_any (λ e. is_at_end (g.C.Entry.RaftEntry.id_of e)) (drop l.entry-index l.entries)
