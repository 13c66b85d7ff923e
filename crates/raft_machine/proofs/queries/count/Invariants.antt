use Rattle.std.proofs.Common.{◌≡◌, take}
use Rattle.std.specs.Prelude.{count_by}
use Rattle.std.specs.FinMap.{contains_key}
use Rattle.raft_machine.proofs.queries.count.Given as goal

abbrev pub invariant-loop-bytes : goal.invariant-loop-bytes
invariant-loop-bytes l = l.count ≡ count_by (contains_key l.keyspace.map) (take l.bytes-index l.keys)
