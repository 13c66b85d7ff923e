-- A frame's sum is that of what stands before its payload, and on through the payload.
use Rattle.std.specs.Prelude.{ℕ, ◌≡◌, ◌++◌, List, length}
use Rattle.std.proofs.Common.{ap, append_assoc, sym}
use Rattle.raft_frames.specs.Crc.{crc32c}
use Rattle.raft_frames.specs.Format.{sum_of, word}

pub sum_joined : (before : ℕ) (payload : List ℕ) → sum_of before payload ≡ crc32c ((word before ++ word (length payload)) ++ payload)
unfolding sum_of
sum_joined before payload = ap crc32c (sym (append_assoc (word before) (word (length payload)) payload))
