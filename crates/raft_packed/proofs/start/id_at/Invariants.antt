use Rattle.std.proofs.Common.{◌≡◌, drop, map}
use Rattle.raft_state.specs.Log.{at}
use Rattle.raft_store.specs.Entries.{entry_meaning}
use Rattle.raft_store.specs.Starting.{entries_of}
use Rattle.raft_packed.proofs.start.id_at.Given as goal

-- it is the first in the rest
abbrev pub invariant-loop-entry : goal.invariant-loop-entry
invariant-loop-entry l = at (map entry_meaning.id_of (entries_of (drop l.entry-index l.log))) l.index ≡ at (map entry_meaning.id_of (entries_of l.log)) l.index
