use Rattle.std.proofs.Common.{◌≡◌}
use Rattle.std.specs.Prelude.{map}
use Rattle.kv_machine.specs.Ranges.{without_value}
use Rattle.kv_machine.proofs.ranges.shown.Given as goal

abbrev pub invariant-loop-kv : goal.invariant-loop-kv
invariant-loop-kv l = l.shown.items ≡ map without_value l.yielded
