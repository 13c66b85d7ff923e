use Rattle.std.specs.Prelude.{◌≡◌, ◌+◌, length}
use Rattle.std.proofs.Common.{arith}
use Rattle.raft_frames.specs.Format.{after_all, frames, start}
use Rattle.raft_frames.proofs.Frames.{next-none}
use Rattle.raft_frames.proofs.Runs.{frames-length, read-end, read-file}
use Rattle.raft_frames.proofs.Spelled.{goes_on, spelled}
use Rattle.raft_frames.proofs.laws.logs_read_back.Goals as goal

pub returns-clause-back : goal.returns-clause-back
returns-clause-back c = λ id payloads each. (read-file id payloads each, (let h : 32 + length (frames (start id) payloads) ≡ (after_all (start id) payloads).position = frames-length (start id) payloads in omega (arith, h)))

pub returns-clause-whole : goal.returns-clause-whole
returns-clause-whole c = read-end

pub returns-clause-ends : goal.returns-clause-ends
returns-clause-ends c = next-none

pub returns-clause-spelled : goal.returns-clause-spelled
returns-clause-spelled c = spelled

pub returns-clause-goes_on : goal.returns-clause-goes_on
returns-clause-goes_on c = goes_on
