use Rattle.std.proofs.Common.{◌≡◌, length}
use Rattle.raft_machine.specs.Bytes.{are_rising}
use Rattle.raft_machine.proofs.keyspace.are_rising.Given as goal

abbrev pub invariant-loop-entry : goal.invariant-loop-entry
invariant-loop-entry l = are_rising l.rest ≡ are_rising l.entries

abbrev pub decreases-loop-entry : goal.decreases-loop-entry
decreases-loop-entry l = length l.rest
