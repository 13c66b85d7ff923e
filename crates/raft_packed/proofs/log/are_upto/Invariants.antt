use Rattle.std.proofs.Common.{◌≡◌, ◌++◌, map}
use Rattle.raft_packed.proofs.log.are_upto.Given as goal

abbrev pub invariant-loop-entry : goal.invariant-loop-entry
invariant-loop-entry l = l.entries ≡ map (λ p. p.1.now) l.yielded ++ l.left
