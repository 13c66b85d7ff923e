use Rattle.std.proofs.Common.{◌++◌, ◌∙◌, ap}
use Rattle.raft_frames.specs.Crc.{crc32c}
use Rattle.raft_frames.specs.Format.{check_of, double_word, word}
use Rattle.raft_frames.proofs.tail.check_of.Goals as goal

pub returns : goal.returns
unfolding check_of
returns c =
    let first = c.crc32c.ensures ∙ ap crc32c c.to_le_bytes.ensures in
    let second = c.crc32c_append-sum.ensures.joins (word c.args.seed) first ∙ ap (λ bytes. crc32c (word c.args.seed ++ bytes)) c.to_le_bytes-2.ensures in
    c.crc32c_append.ensures.joins (word c.args.seed ++ double_word c.args.position) second
    ∙ ap (λ bytes. crc32c ((word c.args.seed ++ double_word c.args.position) ++ bytes)) c.to_le_bytes-3.ensures
