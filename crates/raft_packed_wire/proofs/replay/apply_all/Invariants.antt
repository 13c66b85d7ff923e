use Rattle.std.proofs.Common.{◌≡◌}
use Rattle.std.specs.Prelude.{fold}
use Rattle.raft_packed_wire.specs.Records.{packed_changed}
use Rattle.raft_packed_wire.proofs.replay.apply_all.Given as goal

abbrev pub invariant-loop-change : goal.invariant-loop-change
invariant-loop-change g l = l.store ≡ record l.initial.store { store = fold (packed_changed g.M.Machine.application) l.initial.store.store l.yielded }
