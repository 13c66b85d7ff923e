use Rattle.std.proofs.Common.{◌-◌}
use Rattle.raft_machine.proofs.Digits.{Writes}
use Rattle.raft_machine.proofs.cursors.first_at.Given as goal

abbrev pub invariant-loop : goal.invariant-loop
invariant-loop l = Writes (8 - l.counter) l.cursor l.left l.worth l.key.items
