use Rattle.std.proofs.Common.{arith, sym}
use Rattle.std.proofs.lemmas.List.{length-take-le}
use Rattle.raft_frames.proofs.reading.fault_of.Goals as goal

pub slice_bounds-crc32c-end : goal.slice_bounds-crc32c-end
slice_bounds-crc32c-end c = sym (length-take-le 28 c.args.bytes.now (omega arith))
