use Rattle.std.proofs.Common.{◌≡◌, ◌/◌, ◌%◌, get_or, arith}
use Rattle.raft_frames.specs.declared.tables.TheConstants.{SHIFT_1, SHIFT_2, SHIFT_3, SHIFT_4}
use Rattle.raft_frames.proofs.TableValues.{at_1, at_2, at_3, at_4}
use Rattle.raft_frames.proofs.CrcLemmas.{four_shifts}
use Rattle.raft_frames.proofs.crc.shift_4.Goals as goal

pub returns : goal.returns
returns c =
    let sum = c.args.sum in
    let bytes = c.to_le_bytes.ensures in
    let first : c.at.result ≡ get_or SHIFT_4 (get_or c.to_le_bytes.result 0 0) 0 = c.at.ensures in
    let second : c.at-2.result ≡ get_or SHIFT_3 (get_or c.to_le_bytes.result 1 0) 0 = c.at-2.ensures in
    let third : c.at-3.result ≡ get_or SHIFT_2 (get_or c.to_le_bytes.result 2 0) 0 = c.at-3.ensures in
    let fourth : c.at-4.result ≡ get_or SHIFT_1 (get_or c.to_le_bytes.result 3 0) 0 = c.at-4.ensures in
    rw (first, second, third, fourth, bytes, at_4 (sum % 256) (omega arith), at_3 (sum / 256 % 256) (omega arith), at_2 (sum / 65536 % 256) (omega arith), at_1 (sum / 16777216 % 256) (omega arith)) (four_shifts sum (omega arith))
