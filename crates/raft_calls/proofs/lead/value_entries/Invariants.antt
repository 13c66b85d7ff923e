use Rattle.std.proofs.Common.{◌≡◌, map, take}
use Rattle.raft_calls.specs.LeaderCalls.{value_entry}
use Rattle.raft_calls.proofs.lead.value_entries.Given as goal

abbrev pub invariant-loop-value : goal.invariant-loop-value
invariant-loop-value l = l.entries.items ≡ map value_entry (take l.value-index l.values)
