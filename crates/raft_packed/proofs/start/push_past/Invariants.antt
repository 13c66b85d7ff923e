use Rattle.std.proofs.Common.{◌≡◌, ◌++◌, map}
use Rattle.raft_packed.proofs.start.push_past.Given as goal

abbrev pub invariant-loop-entry : goal.invariant-loop-entry
invariant-loop-entry l = l.log.items ≡ l.initial.log.items ++ map (λ p. p.1) l.yielded
