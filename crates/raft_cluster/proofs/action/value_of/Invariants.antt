use Rattle.std.specs.Prelude.{◌≡◌, ◌++◌, replicate}
use Rattle.std.specs.Int.{to_le_bytes, w64}
use Rattle.raft_cluster.proofs.action.value_of.Given as goal

abbrev pub invariant-zeros : goal.invariant-zeros
invariant-zeros l = l.value.items ≡ to_le_bytes w64 l.token ++ replicate l.counter 0
