use Rattle.std.proofs.Common.{map, take}
use Rattle.std.specs.Fmt.{decimal, HasWritten, IsPlainFormatter}
use Rattle.raft_schedule.specs.Written.{spaced}
use Rattle.raft_schedule.proofs.print.EachIdDisplay.fmt.Given as goal

abbrev pub invariant-loop-id : goal.invariant-loop-id
invariant-loop-id g l =
    IsPlainFormatter l.initial.f → HasWritten g.W.Write.write_str_gives l.initial.f (spaced (map decimal (take l.id-index l.id-items))) l.f
