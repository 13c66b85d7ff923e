use Rattle.std.proofs.Common.{◌≡◌, length}
use Rattle.kv_machine.specs.Deletable.{Deletable}
use Rattle.kv_machine.specs.Store.{keys, with}
use Rattle.kv_machine.specs.Writes.{deletes}
use Rattle.kv_machine.proofs.writes.delete_all.Given as goal

abbrev pub invariant-loop-kv : goal.invariant-loop-kv
invariant-loop-kv l = record {
  all : with l.keyspace (deletes l.left) ≡ with l.fn.keyspace (deletes l.kvs);
  deletable : Deletable (keys l.keyspace) l.left;
}

abbrev pub decreases-loop-kv : goal.decreases-loop-kv
decreases-loop-kv l = length l.left
