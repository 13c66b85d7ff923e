use Rattle.std.proofs.Common.{◌≡◌, ◌/◌, ◌%◌, get_or, arith}
use Rattle.raft_frames.specs.declared.tables.TheConstants.{SHIFT_5, SHIFT_6, SHIFT_7, SHIFT_8}
use Rattle.raft_frames.proofs.TableValues.{at_5, at_6, at_7, at_8}
use Rattle.raft_frames.proofs.CrcLemmas.{eight_shifts}
use Rattle.raft_frames.proofs.crc.shift_8.Goals as goal

pub returns : goal.returns
returns c =
    let sum = c.args.sum in
    let bytes = c.to_le_bytes.ensures in
    let first : c.at.result ≡ get_or SHIFT_8 (get_or c.to_le_bytes.result 0 0) 0 = c.at.ensures in
    let second : c.at-2.result ≡ get_or SHIFT_7 (get_or c.to_le_bytes.result 1 0) 0 = c.at-2.ensures in
    let third : c.at-3.result ≡ get_or SHIFT_6 (get_or c.to_le_bytes.result 2 0) 0 = c.at-3.ensures in
    let fourth : c.at-4.result ≡ get_or SHIFT_5 (get_or c.to_le_bytes.result 3 0) 0 = c.at-4.ensures in
    rw (first, second, third, fourth, bytes, at_8 (sum % 256) (omega arith), at_7 (sum / 256 % 256) (omega arith), at_6 (sum / 65536 % 256) (omega arith), at_5 (sum / 16777216 % 256) (omega arith)) (eight_shifts sum (omega arith))
