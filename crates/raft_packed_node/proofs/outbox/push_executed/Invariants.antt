use Rattle.std.proofs.Common.{◌≡◌, ◌++◌, map}
use Rattle.raft_packed_node.proofs.outbox.push_executed.Given as goal

abbrev pub invariant-loop-entry : goal.invariant-loop-entry
invariant-loop-entry l = l.executed.items ≡ l.initial.executed.items ++ map (λ e. record { node = l.node; entry = e }) l.yielded
