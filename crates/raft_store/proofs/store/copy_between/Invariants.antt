use Rattle.std.proofs.Common.{◌≡◌, map}
use Rattle.raft_store.proofs.store.copy_between.Given as goal

abbrev pub invariant-loop-entry : goal.invariant-loop-entry
invariant-loop-entry l = l.copied.items ≡ map (λ e. e.now) l.yielded
