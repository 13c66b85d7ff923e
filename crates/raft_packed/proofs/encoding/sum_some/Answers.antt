use Rattle.std.proofs.Common.{List, ℕ, ◌++◌, ◌∙◌, ap, arith, append_assoc, take}
use Rattle.std.specs.List.{slice_range}
use Rattle.raft_frames.specs.Crc.{crc32c}
use Rattle.raft_packed.proofs.Encodings.{taken_on}
use Rattle.raft_packed.proofs.encoding.sum_some.Goals as goal

pub returns-clause-sum : goal.returns-clause-sum
returns-clause-sum c = λ front is.
    let bytes = c.args.bytes.now in
    let len = c.args.len in
    let end = c.min-end.result in
    c.crc32c_append.ensures.joins (front ++ take len bytes) is
    ∙ ap crc32c
    (append_assoc front (take len bytes) (slice_range bytes len end)
    ∙ ap (λ (bs : List ℕ). front ++ bs) (taken_on len end bytes (omega (arith, c.requires, c.saturating_add.ensures, c.min-end.ensures))))
