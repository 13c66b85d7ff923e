use Rattle.std.proofs.Common.{map, take}
use Rattle.std.specs.Fmt.{HasWritten, IsPlainFormatter}
use Rattle.raft_schedule.specs.Written.{spaced, value_word}
use Rattle.raft_schedule.proofs.print.EachValueDisplay.fmt.Given as goal

abbrev pub invariant-loop-value : goal.invariant-loop-value
invariant-loop-value g l =
    IsPlainFormatter l.initial.f → HasWritten g.W.Write.write_str_gives l.initial.f (spaced (map value_word (take l.value-index l.value-items))) l.f
