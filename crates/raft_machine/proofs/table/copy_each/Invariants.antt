use Rattle.std.proofs.Common.{◌≡◌, ◌++◌}
use Rattle.raft_machine.proofs.table.copy_each.Given as goal

abbrev pub invariant-loop-key : goal.invariant-loop-key
invariant-loop-key l = l.copied.items ++ l.key-iterator ≡ l.fn.copied.items ++ l.entries.entries
