-- A log's file: a header, and frames behind it. What a frame's bytes are depends on its place, and on all frames before it.
use Rattle.std.specs.Prelude.{ℕ, ◌+◌, List, [], ◌∷◌, ◌++◌, length}
use Rattle.std.specs.Int.{to_le_bytes, w32, w64}
use Rattle.raft_frames.specs.Crc.{crc32c}
use Rattle.raft_frames.specs.declared.header.LogId.{LogId}
use Rattle.raft_frames.specs.declared.header.TheConstants.{MAGIC, VERSION}
use Rattle.raft_frames.specs.declared.tail.Tail.{Tail}

-- four bytes of a number, and eight, the lowest first
abbrev pub word : ℕ → List ℕ
word n = to_le_bytes w32 n

abbrev pub double_word : ℕ → List ℕ
double_word n = to_le_bytes w64 n

abbrev pub fields : LogId → List ℕ
fields id = MAGIC ++ (word VERSION ++ (double_word id.cluster ++ double_word id.node))

-- the header: its fields, and their sum
unfoldable pub seed_of : LogId → ℕ
seed_of id = crc32c (fields id)

abbrev pub header : LogId → List ℕ
header id = fields id ++ word (seed_of id)

-- where the first frame goes
abbrev pub start : LogId → Tail
start id = record { seed = seed_of id; position = 32; sum = seed_of id }

-- what lets a reader believe a length: at another place, or in another file, it has another sum
unfoldable pub check_of : ℕ → ℕ → ℕ → ℕ
check_of seed position len = crc32c (word seed ++ (double_word position ++ word len))

-- the sum of a frame, and through the sum before it of all frames up to it
unfoldable pub sum_of : ℕ → List ℕ → ℕ
sum_of before payload = crc32c (word before ++ (word (length payload) ++ payload))

-- what stands before a payload of so many bytes, with this sum: length, check, sum
abbrev pub head : Tail → ℕ → ℕ → List ℕ
head tail len sum = word len ++ (word (check_of tail.seed tail.position len) ++ word sum)

-- a frame: length, check, sum, payload
abbrev pub frame : Tail → List ℕ → List ℕ
frame tail payload = word (length payload) ++ (word (check_of tail.seed tail.position (length payload)) ++ (word (sum_of tail.sum payload) ++ payload))

-- where the frame after it goes
abbrev pub after : Tail → List ℕ → Tail
after tail payload = record { seed = tail.seed; position = tail.position + (12 + length payload); sum = sum_of tail.sum payload }

-- frames one behind the other, and where the next goes
abbrev pub frames : Tail → List (List ℕ) → List ℕ
frames tail [] = []
frames tail (payload ∷ payloads) = frame tail payload ++ frames (after tail payload) payloads

abbrev pub after_all : Tail → List (List ℕ) → Tail
after_all tail [] = tail
after_all tail (payload ∷ payloads) = after_all (after tail payload) payloads
