use Rattle.std.proofs.Common.{◌≡◌, ◌++◌}
use Rattle.raft_machine.proofs.sessions.copy_each.Given as goal

abbrev pub invariant-loop-client : goal.invariant-loop-client
invariant-loop-client l = l.copied.items ++ l.client-iterator ≡ l.fn.copied.items ++ l.cache.entries
