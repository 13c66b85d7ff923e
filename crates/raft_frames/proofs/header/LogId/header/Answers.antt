use Rattle.std.proofs.Common.{refl}
use Rattle.raft_frames.proofs.header.LogId.header.Goals as goal

pub returns : goal.returns
returns c = rw (c.copy_from_slice-2.ensures.after, c.to_le_bytes.ensures, c.seed.ensures, c.copy_from_slice.ensures.after, c.fields.ensures) refl
