-- Cursors and chunks as bytes, each with the sum of its bytes behind it.
use Rattle.std.specs.Prelude.{ℕ, ◌≡◌, ◌-◌, ◌==◌, nat_lt, Bool, List, ◌++◌, length, take, drop, Result, Ok, Err, if◌then◌else◌}
use Rattle.std.specs.Borrow.{Bor}
use Rattle.std.specs.Int.{from_le_bytes, w32}
use Rattle.raft_codec.specs.declared.error.DecodeError.{DecodeError}
use Rattle.raft_codec.specs.declared.error.DecodeError.TheVariants.{Malformed}
use Rattle.raft_codec.specs.declared.error.Fault.TheVariants.{TooShort, Inconsistent}
use Rattle.raft_codec.specs.Codec.{Codec, ◌>>=◌, Refuses, number, raw, pair, by_parts, by_tested, whole_at}
use Rattle.raft_frames.specs.Crc.{crc32c}
use Rattle.raft_frames.specs.Format.{word}
use Rattle.raft_chunks.specs.declared.cursor.Cursor.{Cursor}
use Rattle.raft_chunks.specs.Chunks.{Piece}

-- the title's number, length and sum, and the offset
abbrev pub parts_of_cursor : Cursor → ℕ × (ℕ × (ℕ × ℕ))
parts_of_cursor c = (c.title.number, (c.title.len, (c.title.sum, c.offset)))

abbrev pub cursor_by : ℕ × (ℕ × (ℕ × ℕ)) → Cursor
cursor_by x = record { title = record { number = x.0; len = x.1.0; sum = x.1.1.0 }; offset = x.1.1.1 }

-- a sum has 32 bits
abbrev pub has_sum : ℕ × (ℕ × (ℕ × ℕ)) → Bool
has_sum x = nat_lt x.1.1.0 0x1_0000_0000

unfoldable pub cursor : Codec Cursor
cursor = by_tested parts_of_cursor cursor_by has_sum (pair number (pair number (pair number number)))

-- where it begins, and its bytes behind their number
unfoldable pub piece : Codec Piece
piece = by_parts (λ p. (p.at, p.bytes)) (λ x. record { at = x.0; bytes = x.1 }) (pair cursor raw)

-- behind a value's bytes the sum of these
abbrev pub sealed : {X : Type 0} → Codec X → X → List ℕ
sealed c x = c.bytes x ++ word (crc32c (c.bytes x))

-- what stands in front of its sum
abbrev pub unsealed : List ℕ → Result (List ℕ) DecodeError
unsealed bytes =
    if nat_lt (length bytes) 4 then Err (Malformed TooShort (length bytes))
    else if crc32c (take (length bytes - 4) bytes) == from_le_bytes w32 (drop (length bytes - 4) bytes) then Ok (take (length bytes - 4) bytes)
    else Err (Malformed Inconsistent (length bytes))

-- the value whose bytes these are, with their sum
abbrev pub opened : {X : Type 0} → Codec X → List ℕ → Result X DecodeError
opened c bytes = unsealed bytes >>= λ body. whole_at c body

-- what the code returns, unless memory ran out
abbrev pub Unseals : Result (Bor (List ℕ)) DecodeError → Result (List ℕ) DecodeError → Type 0
Unseals (Ok body) given = given ≡ Ok body.now
Unseals (Err e) given = given ≡ Err e

abbrev pub Opens : {X Y : Type 0} → (Y → X) → Result Y DecodeError → Codec X → List ℕ → Type 0
Opens view (Ok y) c bytes = opened c bytes ≡ Ok (view y)
Opens view (Err e) c bytes = Refuses (opened c bytes) e
