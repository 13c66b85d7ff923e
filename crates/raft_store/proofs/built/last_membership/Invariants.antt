use Rattle.std.proofs.Common.{◌≡◌, take}
use Rattle.raft_store.specs.Built.{last_membership}
use Rattle.raft_store.specs.Entries.{entry_meaning}
use Rattle.raft_store.proofs.Memberships.{found}
use Rattle.raft_store.proofs.built.last_membership.Given as goal

abbrev pub invariant-loop-entry : goal.invariant-loop-entry
invariant-loop-entry l = found l.last ≡ last_membership entry_meaning (take l.entry-index l.entries)
