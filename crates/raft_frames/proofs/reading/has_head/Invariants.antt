use Rattle.std.proofs.Common.{◌≡◌, ◌+◌, drop}
use Rattle.raft_frames.specs.Reading.{has_head}
use Rattle.raft_frames.proofs.reading.has_head.Given as goal

abbrev pub invariant-loop-i : goal.invariant-loop-i
invariant-loop-i l = has_head l.seed (l.position + l.i) (drop l.i l.bytes) ≡ has_head l.seed l.position l.bytes
