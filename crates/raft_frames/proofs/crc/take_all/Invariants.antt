use Rattle.std.proofs.Common.{◌≡◌, length, drop}
use Rattle.raft_frames.specs.Crc.{more}
use Rattle.raft_frames.proofs.crc.take_all.Given as goal

abbrev pub invariant-loop-rest : goal.invariant-loop-rest
invariant-loop-rest l = more l.sum l.rest ≡ more l.start l.bytes

abbrev pub decreases-loop-rest : goal.decreases-loop-rest
decreases-loop-rest l = length l.rest

abbrev pub invariant-loop-byte : goal.invariant-loop-byte
invariant-loop-byte l = more l.sum (drop l.byte-index l.byte-items) ≡ more l.start l.bytes
