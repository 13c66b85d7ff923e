use Rattle.std.proofs.Common.{◌≡◌, map}
use Rattle.raft_packed.proofs.log.copy_between.Given as goal

abbrev pub invariant-loop-entry : goal.invariant-loop-entry
invariant-loop-entry l = l.copied.items ≡ map (λ p. p.1.now) l.yielded
