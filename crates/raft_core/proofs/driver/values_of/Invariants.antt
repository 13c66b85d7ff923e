use Rattle.std.proofs.Common.{◌≡◌, map}
use Rattle.raft_store.specs.declared.entry.Value.TheVariants.{Bytes}
use Rattle.raft_core.proofs.driver.values_of.Given as goal

abbrev pub invariant-loop-bytes : goal.invariant-loop-bytes
invariant-loop-bytes l = l.values.items ≡ map Bytes l.yielded
