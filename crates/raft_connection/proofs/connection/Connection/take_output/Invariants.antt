use Rattle.std.proofs.Common.{◌≡◌, ◌++◌, length}
use Rattle.raft_connection.specs.Connection.{taken, output}
use Rattle.raft_connection.proofs.connection.Connection.take_output.Given as goal

abbrev pub invariant-loop-bytes : goal.invariant-loop-bytes
invariant-loop-bytes l = record { left : taken l.self ≡ taken l.initial.self; sent : l.out.items ++ output l.self ≡ l.initial.out.items ++ output l.initial.self }

abbrev pub decreases-loop-bytes : goal.decreases-loop-bytes
decreases-loop-bytes l = length l.self.pending.slots
