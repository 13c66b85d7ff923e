use Rattle.std.proofs.Common.{◌≡◌, take, fold}
use Rattle.raft_connection.specs.HashSlot.{crc_next}
use Rattle.raft_connection.proofs.hash_slots.crc16.Given as goal

abbrev pub invariant-loop-byte : goal.invariant-loop-byte
invariant-loop-byte l = l.crc ≡ fold crc_next 0 (take l.byte-index l.bytes)
