use Rattle.std.proofs.Common.{◌≡◌, ◌+◌, length}
use Rattle.kv_machine.proofs.ranges.count.Given as goal

abbrev pub invariant-loop-key : goal.invariant-loop-key
invariant-loop-key l = l.count + length l._key-iterator ≡ length l.fn.span
