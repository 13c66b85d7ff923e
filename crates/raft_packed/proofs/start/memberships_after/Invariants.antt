use Rattle.std.proofs.Common.{◌≡◌, take}
use Rattle.raft_store.specs.Starting.{entries_of}
use Rattle.proof_packed_stores.specs.Stores.{with_entries}
use Rattle.raft_packed.specs.Kept.{no_state}
use Rattle.raft_packed.proofs.start.memberships_after.Given as goal

abbrev pub invariant-loop-entry : goal.invariant-loop-entry
invariant-loop-entry l =
    (l.before ≡ (with_entries no_state l.summary (entries_of (take l.entry-index l.entries))).before)
    × (l.effective ≡ (with_entries no_state l.summary (entries_of (take l.entry-index l.entries))).effective)
