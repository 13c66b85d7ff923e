use Rattle.std.proofs.Common.{◌≡◌}
use Rattle.std.specs.Prelude.{filter}
use Rattle.kv_machine.specs.Ranges.{is_asked}
use Rattle.kv_machine.proofs.ranges.asked.Given as goal

abbrev pub invariant-loop-kv : goal.invariant-loop-kv
invariant-loop-kv l = l.asked.items ≡ filter (is_asked l.request) l.yielded
