use Rattle.std.proofs.Common.{◌≡◌, length}
use Rattle.raft_machine.proofs.Loaded.{loaded}
use Rattle.raft_machine.proofs.keyspace.Keyspace.of.Given as goal

abbrev pub invariant-loop-key : goal.invariant-loop-key
invariant-loop-key l = loaded l.keyspace l.entries.items ≡ loaded l.initial.keyspace l.initial.entries.items

abbrev pub decreases-loop-key : goal.decreases-loop-key
decreases-loop-key l = length l.entries.items
