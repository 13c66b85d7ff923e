use Rattle.std.proofs.Common.{◌≡◌, ◌+◌, ◌≤◌, length}
use Rattle.std.specs.Vec.Iter.{into_iter_items}
use Rattle.raft_machine.specs.Commands.{delete}
use Rattle.raft_machine.proofs.updates.delete.Given as goal

abbrev pub invariant-loop-key : goal.invariant-loop-key
invariant-loop-key l =
    let left = into_iter_items l.key-iterator in
    record {
      keys : (delete l.keyspace left).0 ≡ (delete l.fn.keyspace l.fn.keys).0;
      count : l.count + (delete l.keyspace left).1 ≡ (delete l.fn.keyspace l.fn.keys).1;
      small : l.count + length left ≤ length l.fn.keys;
    }
