use Rattle.std.proofs.Common.{◌≡◌, ◌++◌}
use Rattle.raft_store.proofs.restart.push_past.Given as goal

abbrev pub invariant-loop-entry : goal.invariant-loop-entry
invariant-loop-entry l = l.log.items ≡ l.initial.log.items ++ l.yielded
