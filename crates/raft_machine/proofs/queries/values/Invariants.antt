use Rattle.std.proofs.Common.{◌≡◌, take}
use Rattle.std.specs.Prelude.{map}
use Rattle.raft_machine.specs.Commands.{value_of}
use Rattle.raft_machine.proofs.queries.values.Given as goal

abbrev pub invariant-loop-bytes : goal.invariant-loop-bytes
invariant-loop-bytes l = l.values.items ≡ map (value_of l.keyspace.map) (take l.bytes-index l.keys)
