use Rattle.std.proofs.Common.{◌≡◌}
use Rattle.std.specs.Vec.Iter.{into_iter_items}
use Rattle.raft_machine.specs.Commands.{set_all}
use Rattle.raft_machine.proofs.updates.set_many.Given as goal

abbrev pub invariant-loop-key : goal.invariant-loop-key
invariant-loop-key l = set_all l.keyspace (into_iter_items l.key-iterator) ≡ set_all l.fn.keyspace l.fn.pairs
