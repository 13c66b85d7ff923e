-- What is read of a log's file, whatever a crash or damage made of it.
use Rattle.std.specs.Prelude.{ℕ, ◌≡◌, ◌+◌, ◌==◌, ◌&&◌, ◌||◌, Bool, true, false, List, [], ◌∷◌, length, map, take, drop, Option, Some, None, Result, Ok, Err, nat_eq, nat_le, nat_lt, if◌then◌else◌}
use Rattle.std.specs.List.{list_all, starts_with}
use Rattle.std.specs.Borrow.{Bor}
use Rattle.std.specs.Option.{option_map}
use Rattle.std.specs.Int.{from_le_bytes, w32, w64}
use Rattle.std.proofs.Common.{suc, zero}
use Rattle.raft_frames.specs.Crc.{crc32c}
use Rattle.raft_frames.specs.Format.{after, check_of, header, start, sum_of}
use Rattle.raft_frames.specs.declared.error.Fault.{Fault}
use Rattle.raft_frames.specs.declared.error.Fault.TheVariants.{Format, Version, Header, Cluster, Node, Damaged}
use Rattle.raft_frames.specs.declared.header.LogId.{LogId}
use Rattle.raft_frames.specs.declared.header.TheConstants.{MAGIC, VERSION}
use Rattle.raft_frames.specs.declared.error.ReadError.{ReadError}
use Rattle.raft_frames.specs.declared.error.ReadError.TheVariants as errors
use Rattle.raft_frames.specs.declared.reading.Log.{Log}
use Rattle.raft_frames.specs.declared.tail.Tail.{Tail}
use Rattle.raft_frames.specs.declared.tail.TheConstants.{MAX_FRAME}

-- the number in the four bytes at an offset, and in eight
abbrev pub number_at : ℕ → List ℕ → ℕ
number_at offset bytes = from_le_bytes w32 (take 4 (drop offset bytes))

abbrev pub long_at : ℕ → List ℕ → ℕ
long_at offset bytes = from_le_bytes w64 (take 8 (drop offset bytes))

-- the bytes begin as a frame does at this position of this file: a length in bounds, with its check
unfoldable pub is_head : ℕ → ℕ → List ℕ → Bool
is_head seed position bytes =
    nat_le 12 (length bytes) && (nat_le 1 (number_at 0 bytes) && (nat_le (number_at 0 bytes) MAX_FRAME && (number_at 4 bytes == check_of seed position (number_at 0 bytes))))

-- a frame begins at the position or anywhere behind it
abbrev pub has_head : ℕ → ℕ → List ℕ → Bool
has_head seed position [] = false
has_head seed position (byte ∷ bytes) = is_head seed position (byte ∷ bytes) || has_head seed (suc position) bytes

-- What ends here is torn, unless a frame begins behind it: then it was whole, and is damaged. n: where to look
abbrev pub end_unless_later : Tail → ℕ → List ℕ → Result (Option (List ℕ)) Fault
end_unless_later tail n bytes = if has_head tail.seed (tail.position + n) (drop n bytes) then Err (Damaged tail.position) else Ok None

abbrev pub believed : Tail → ℕ → List ℕ → Result (Option (List ℕ)) Fault
believed tail len bytes =
    if nat_lt (length bytes) (12 + len) then Ok None
    else if number_at 8 bytes == sum_of tail.sum (take len (drop 12 bytes)) then Ok (Some (take len (drop 12 bytes)))
    else end_unless_later tail (12 + len) bytes

-- What a function returned is what reading gives, seen as bytes.
abbrev pub GivesFrame : Result (Option (Bor (List ℕ))) Fault → Result (Option (List ℕ)) Fault → Type 0
GivesFrame (Ok frame) given = given ≡ Ok (option_map (λ payload. payload.now) frame)
GivesFrame (Err fault) given = given ≡ Err fault

-- the payload of the frame that the bytes begin with; none at the log's end
unfoldable pub next : Tail → List ℕ → Result (Option (List ℕ)) Fault
next tail bytes =
    if nat_lt (length bytes) 12 then Ok None
    else if is_head tail.seed tail.position bytes then believed tail (number_at 0 bytes) bytes
    else end_unless_later tail 12 bytes

-- what is read of a file: the payloads, how many bytes they and the header take, and where the next frame goes
pub record Contents : Type 0 where
  pub payloads : List (List ℕ)
  pub end : ℕ
  pub tail : Tail

-- nothing but the place of the next frame
abbrev pub nothing : Tail → Contents
nothing tail = record { payloads = []; end = tail.position; tail = tail }

abbrev pub behind : List ℕ → Result Contents Fault → Result Contents Fault
behind payload (Ok c) = Ok (record { payloads = payload ∷ c.payloads; end = c.end; tail = c.tail })
behind payload (Err fault) = Err fault

abbrev pub go_on : Tail → (List ℕ → Result Contents Fault) → Result (Option (List ℕ)) Fault → Result Contents Fault
go_on tail rest (Ok (Some payload)) = behind payload (rest payload)
go_on tail rest (Ok None) = Ok (nothing tail)
go_on tail rest (Err fault) = Err fault

-- the frames of the bytes, at most n
abbrev pub read_frames : ℕ → Tail → List ℕ → Result Contents Fault
read_frames zero tail bytes = Ok (nothing tail)
read_frames (suc n) tail bytes = go_on tail (λ payload. read_frames n (after tail payload) (drop (12 + length payload) bytes)) (next tail bytes)

abbrev pub is_zero : List ℕ → Bool
is_zero bytes = list_all (λ byte. byte == 0) bytes

-- a header whose writing a crash cut short: some of its front, but not all of it, and zeros
abbrev pub is_new : List ℕ → List ℕ → Bool
is_new [] bytes = false
is_new (byte ∷ header) [] = true
is_new (byte ∷ header) (found ∷ bytes) = is_zero (found ∷ bytes) || (found == byte && is_new header bytes)

-- why a file isn't this log
abbrev pub fault_of : LogId → List ℕ → Fault
fault_of id bytes =
    if starts_with nat_eq bytes MAGIC then
    (if nat_lt (length bytes) 32 then Header
    else if number_at 8 bytes == VERSION then
    (if number_at 28 bytes == crc32c (take 28 bytes) then
    (if long_at 12 bytes == id.cluster then Node (long_at 20 bytes) else Cluster (long_at 12 bytes))
    else Header)
    else Version (number_at 8 bytes))
    else Format

abbrev pub new_log : LogId → Contents
new_log id = record { payloads = []; end = 0; tail = start id }

-- A log as the values that it has, and what `read` returned: it gives what reading gives, unless memory ran out.
abbrev pub contents_of : Log → Contents
contents_of log = record { payloads = map (λ payload. payload.now) log.payloads.items; end = log.end; tail = log.tail }

abbrev pub Gives : Result Log ReadError → Result Contents Fault → Type 0
Gives (Ok log) given = given ≡ Ok (contents_of log)
Gives (Err (errors.Fault fault)) given = given ≡ Err fault
Gives (Err errors.OutOfMemory) given = Unit {0}

-- the log of a file
abbrev pub read : LogId → List ℕ → Result Contents Fault
read id bytes =
    if starts_with nat_eq bytes (header id) then read_frames (length (drop 32 bytes)) (start id) (drop 32 bytes)
    else if is_new (header id) bytes then Ok (new_log id)
    else Err (fault_of id bytes)
