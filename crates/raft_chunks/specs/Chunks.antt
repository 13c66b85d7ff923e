-- Snapshots' titles, places in their bytes, and chunks.
use Rattle.std.specs.Prelude.{ℕ, ◌==◌, ◌&&◌, nat_le, Bool, List, length, take, drop, if◌then◌else◌}
use Rattle.raft_frames.specs.Crc.{crc32c}
use Rattle.raft_chunks.specs.declared.cursor.Chunk.{Chunk}
use Rattle.raft_chunks.specs.declared.cursor.Cursor.{Cursor}
use Rattle.raft_chunks.specs.declared.cursor.Title.{Title}

-- the title of a snapshot of so many entries, with these bytes
abbrev pub title_of : ℕ → List ℕ → Title
title_of number bytes = record { number = number; len = length bytes; sum = crc32c bytes }

abbrev pub same_title : Title → Title → Bool
same_title a b = (a.number == b.number) && ((a.len == b.len) && (a.sum == b.sum))

abbrev pub start_of : Title → Cursor
start_of title = record { title = title; offset = 0 }

-- a sender's cursor after an answer
abbrev pub followed : Cursor → Cursor → Cursor
followed c answer = if same_title c.title answer.title then record c { offset = answer.offset } else c

abbrev pub is_at_end : Cursor → Bool
is_at_end c = nat_le c.title.len c.offset

-- a chunk, its bytes as a list
pub record Piece : Type 0 where
  pub at : Cursor
  pub bytes : List ℕ

abbrev pub piece_of : Chunk → Piece
piece_of chunk = record { at = chunk.at; bytes = chunk.bytes.now }

-- the chunk at a cursor in these bytes, of at most so many
abbrev pub chunk_at : Cursor → List ℕ → ℕ → Piece
chunk_at c bytes most = record { at = c; bytes = take most (drop c.offset bytes) }
