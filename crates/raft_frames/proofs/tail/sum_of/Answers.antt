use Rattle.std.proofs.Common.{◌++◌, ◌∙◌, length, sym}
use Rattle.raft_frames.specs.Format.{word}
use Rattle.raft_frames.proofs.Sums.{sum_joined}
use Rattle.raft_frames.proofs.tail.sum_of.Goals as goal

pub returns : goal.returns
returns c =
    c.crc32c_append.ensures.joins (word c.args.before ++ word (length c.args.payload.now)) c.front_sum.ensures ∙ sym (sum_joined c.args.before c.args.payload.now)
