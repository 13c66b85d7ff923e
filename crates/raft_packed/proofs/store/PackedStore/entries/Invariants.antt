use Rattle.std.proofs.Common.{◌≡◌}
use Rattle.raft_packed.proofs.store.PackedStore.entries.Given as goal

abbrev pub invariant-loop-entry : goal.invariant-loop-entry
invariant-loop-entry g l = l.log.items ≡ l.yielded
