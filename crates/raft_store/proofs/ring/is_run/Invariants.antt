use Rattle.std.proofs.Common.{map, take}
use Rattle.raft_state.specs.LogLaws.{IsRun}
use Rattle.raft_store.specs.Entries.{entry_meaning}
use Rattle.raft_store.proofs.ring.is_run.Given as goal

abbrev pub invariant-loop-place : goal.invariant-loop-place
invariant-loop-place l = IsRun l.next (map entry_meaning.id_of (take l.place l.entries))
