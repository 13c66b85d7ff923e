use Rattle.std.proofs.Common.{◌≡◌, take}
use Rattle.raft_store.specs.Starting.{entries_of}
use Rattle.raft_packed.proofs.start.copy_all.Given as goal

abbrev pub invariant-loop-entry : goal.invariant-loop-entry
invariant-loop-entry l = l.copied.items ≡ entries_of (take l.entry-index l.entries)
