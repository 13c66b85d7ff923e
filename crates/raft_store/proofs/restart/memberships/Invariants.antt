use Rattle.std.proofs.Common.{◌≡◌, take}
use Rattle.raft_store.specs.Starting.{entries_of}
use Rattle.raft_store.proofs.Memberships.{last_found, stored_some}
use Rattle.raft_store.proofs.restart.memberships.Given as goal

abbrev pub invariant-loop-entry : goal.invariant-loop-entry
invariant-loop-entry l = (stored_some l.before, stored_some l.last) ≡ last_found (entries_of (take l.entry-index l.log))
