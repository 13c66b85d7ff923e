use Rattle.std.proofs.Common.{◌≡◌}
use Rattle.raft_packed.specs.Kept.{with_late}
use Rattle.raft_packed.proofs.states.fold_some.Given as goal

abbrev pub invariant-loop : goal.invariant-loop
invariant-loop g l =
    with_late g.M.Machine.application l.snapshot l.late.items ≡ with_late g.M.Machine.application l.initial.snapshot l.initial.late.items
