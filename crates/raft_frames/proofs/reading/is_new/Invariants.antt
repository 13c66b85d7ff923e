use Rattle.std.proofs.Common.{◌≡◌, drop}
use Rattle.raft_frames.specs.Reading.{is_new}
use Rattle.raft_frames.proofs.reading.is_new.Given as goal

abbrev pub invariant-loop-i : goal.invariant-loop-i
invariant-loop-i l = is_new (drop l.i l.header) (drop l.i l.bytes) ≡ is_new l.header l.bytes
