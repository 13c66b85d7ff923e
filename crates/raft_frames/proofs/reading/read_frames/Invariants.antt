use Rattle.std.proofs.Common.{◌≡◌, ◌+◌, ◌-◌, length, map}
use Rattle.raft_frames.specs.Reading.{read_frames}
use Rattle.raft_frames.proofs.ReadLemmas.{behind_all}
use Rattle.raft_frames.proofs.reading.read_frames.Given as goal

abbrev pub invariant-loop : goal.invariant-loop
invariant-loop l = record {
  place : l.tail.position + length l.rest ≡ l.start.position + length l.bytes;
  read : behind_all (map (λ payload. payload.now) l.payloads.items) (read_frames (length l.bytes - l.counter) l.tail l.rest) ≡ read_frames (length l.bytes) l.start l.bytes;
}
