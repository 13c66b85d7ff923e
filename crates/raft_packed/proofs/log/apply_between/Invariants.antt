use Rattle.std.proofs.Common.{◌≡◌, map}
use Rattle.proof_packed_stores.specs.Stores.{with_entries}
use Rattle.raft_packed.proofs.log.apply_between.Given as goal

abbrev pub invariant-loop-entry : goal.invariant-loop-entry
invariant-loop-entry g l = l.states ≡ record l.initial.states { applied = with_entries g.M.Machine.application l.initial.states.applied (map (λ p. p.1.now) l.yielded) }
