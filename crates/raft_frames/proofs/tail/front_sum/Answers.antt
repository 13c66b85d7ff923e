use Rattle.std.proofs.Common.{◌++◌, ◌∙◌, ap}
use Rattle.raft_frames.specs.Crc.{crc32c}
use Rattle.raft_frames.specs.Format.{word}
use Rattle.raft_frames.proofs.tail.front_sum.Goals as goal

pub returns : goal.returns
returns c =
    let first = c.crc32c.ensures ∙ ap crc32c c.to_le_bytes.ensures in
    c.crc32c_append.ensures.joins (word c.args.before) first ∙ ap (λ bytes. crc32c (word c.args.before ++ bytes)) c.to_le_bytes-2.ensures
