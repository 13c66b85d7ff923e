use Rattle.std.proofs.Common.{◌≡◌}
use Rattle.std.specs.Prelude.{fold}
use Rattle.raft_wire.specs.Records.{changed}
use Rattle.raft_wire.proofs.replay.apply_all.Given as goal

abbrev pub invariant-loop-change : goal.invariant-loop-change
invariant-loop-change l = l.store ≡ fold changed l.initial.store l.yielded
