-- How a receiver puts chunks together.
use Rattle.std.specs.Prelude.{ℕ, ◌≡◌, ◌+◌, ◌==◌, not, nat_le, nat_lt, List, [], ◌++◌, length, Option, None, Some, Result, Ok, Err, if◌then◌else◌}
use Rattle.std.specs.Option.{option_map}
use Rattle.std.specs.Global.{Vec}
use Rattle.raft_frames.specs.Crc.{crc32c}
use Rattle.raft_chunks.specs.declared.cursor.Cursor.{Cursor}
use Rattle.raft_chunks.specs.declared.cursor.Title.{Title}
use Rattle.raft_chunks.specs.declared.error.Refusal.{Refusal}
use Rattle.raft_chunks.specs.declared.error.Refusal.TheVariants.{Held, Misplaced, TooLong, Damaged}
use Rattle.raft_chunks.specs.declared.error.TakeError.{TakeError}
use Rattle.raft_chunks.specs.declared.error.TakeError.TheVariants.{Refused, OutOfMemory}
use Rattle.raft_chunks.specs.Assembled.{Assembled}
use Rattle.raft_chunks.specs.Chunks.{Piece, same_title}

abbrev pub nothing : ℕ → Assembled
nothing held = record { held = held; title = record { number = 0; len = 0; sum = 0 }; bytes = [] }

-- how many of a snapshot's bytes are there, and so where its next chunk begins
abbrev pub wanted : Assembled → Title → ℕ
wanted a title = if nat_le title.number a.held then title.len else if same_title a.title title then length a.bytes else 0

abbrev pub cursor_of : Assembled → Title → Cursor
cursor_of a title = record { title = title; offset = wanted a title }

abbrev pub refusal_of : Assembled → Piece → Option Refusal
refusal_of a p =
    if nat_le p.at.title.number a.held then Some Held
    else if not (p.at.offset == wanted a p.at.title) then Some Misplaced
    else if nat_lt p.at.title.len (p.at.offset + length p.bytes) then Some TooLong
    else None

-- with one more chunk: of the same snapshot, or the first of another one
abbrev pub joined : Assembled → Piece → Assembled
joined a p = record { held = a.held; title = p.at.title; bytes = (if same_title a.title p.at.title then a.bytes else []) ++ p.bytes }

-- the snapshot is handed out once all its bytes are there, if they have its sum
abbrev pub finished : Assembled → Result (Option (List ℕ)) Refusal × Assembled
finished a =
    if nat_lt (length a.bytes) a.title.len then (Ok None, a)
    else if crc32c a.bytes == a.title.sum then (Ok (Some a.bytes), record a { held = a.title.number; bytes = [] })
    else (Err Damaged, record a { bytes = [] })

-- the answer to a chunk, and what is there after it
abbrev pub taken : Assembled → Piece → Result (Option (List ℕ)) Refusal × Assembled
taken a p = elim (refusal_of a p) [ Some refusal ↦ (Err refusal, a) | None ↦ finished (joined a p) ]

-- ---- what the code returns

abbrev pub Finishes : Result (Option (Vec ℕ)) Refusal → Result (Option (List ℕ)) Refusal × Assembled → Assembled → Type 0
Finishes (Ok bytes) given new = given ≡ (Ok (option_map (λ v. v.items) bytes), new)
Finishes (Err refusal) given new = given ≡ (Err refusal, new)

-- the same, unless memory ran out: then nothing has changed
abbrev pub Takes : Result (Option (Vec ℕ)) TakeError → Result (Option (List ℕ)) Refusal × Assembled → Assembled → Assembled → Type 0
Takes (Ok bytes) given old new = given ≡ (Ok (option_map (λ v. v.items) bytes), new)
Takes (Err (Refused refusal)) given old new = given ≡ (Err refusal, new)
Takes (Err OutOfMemory) given old new = new ≡ old
