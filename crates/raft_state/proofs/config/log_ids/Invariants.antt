use Rattle.std.proofs.Common.{◌≡◌, map, take}
use Rattle.raft_state.proofs.config.log_ids.Given as goal

abbrev pub invariant-loop-entry : goal.invariant-loop-entry
invariant-loop-entry g l = l.ids.items ≡ map g.E.RaftEntry.id_of (take l.entry-index l.entries)
