use Rattle.std.proofs.Common.{arith}
use Rattle.raft_frames.proofs.CrcLemmas.{of_eight}
use Rattle.raft_frames.proofs.crc.take_eight.Goals as goal

pub returns : goal.returns
returns c =
    rw (c.shift_8.ensures, c.shift_4.ensures)
    (of_eight c.args.sum c.args.bytes.now c.from_le_bytes-low.result c.from_le_bytes-high.result c.requires (λ i. omega (arith, c.type_inv.bytes i)) c.from_le_bytes-low.ensures c.from_le_bytes-high.ensures)
