use Rattle.std.proofs.Common.{ℕ, ◌++◌, ◌∙◌, ap, length, sym}
use Rattle.raft_frames.specs.Crc.{crc32c}
use Rattle.raft_frames.specs.Format.{word}
use Rattle.raft_frames.proofs.Sums.{sum_joined}
use Rattle.test_bytes.proofs.frames.push_head.Goals as goal

pub push_head-requires : goal.push_head-requires
push_head-requires c =
    let before = c.args.desk.now.tail.sum in
    let payload = c.args.payload.now in
    let front = c.front_sum.ensures ∙ ap (λ (len : ℕ). crc32c (word before ++ word len)) c.in-Ok.ensures.1 in
    c.crc32c_append-sum.ensures.joins (word before ++ word (length payload)) front ∙ sym (sum_joined before payload)
