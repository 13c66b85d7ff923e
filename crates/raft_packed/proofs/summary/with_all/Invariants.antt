use Rattle.std.proofs.Common.{◌≡◌, take}
use Rattle.proof_packed_stores.specs.Stores.{with_entries}
use Rattle.raft_packed.specs.Kept.{no_state}
use Rattle.raft_packed.proofs.summary.with_all.Given as goal

abbrev pub invariant-loop-entry : goal.invariant-loop-entry
invariant-loop-entry l = l.more ≡ with_entries no_state l.initial.more (take l.entry-index l.entries)
