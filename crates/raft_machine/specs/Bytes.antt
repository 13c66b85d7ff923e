-- How a state stands in bytes: what a snapshot holds.
use Rattle.std.specs.Prelude.{ℕ, ◌+◌, ◌*◌, ◌/◌, ◌%◌, ◌==◌, ◌&&◌, Bool, true, not, List, [], ◌∷◌, length, Option, Result, Ok, Err, nat_lt, nat_le, nat_eq, ℤ, pos, negsuc, if◌then◌else◌}
use Rattle.std.specs.List.{list_any, list_all}
use Rattle.std.specs.Ordering.{nat_cmp, is_lt}
use Rattle.std.specs.Cmp.Lexicographic.{slice_cmp}
use Rattle.std.specs.FinMap.{entries, from_sorted}
use Rattle.lru.specs.LruCache.{LruCache, lru_cache}
use Rattle.raft_codec.specs.declared.error.DecodeError.{DecodeError}
use Rattle.raft_codec.specs.declared.error.DecodeError.TheVariants.{Malformed}
use Rattle.raft_codec.specs.declared.error.Fault.TheVariants.{UnknownVersion}
use Rattle.raft_codec.specs.Codec.{Codec, ◌>>=◌, number, raw, optional, list, pair, by_parts, by_tested, tag_at, unknown_tag}
use Rattle.raft_machine.specs.declared.stored.Stored.{Stored}
use Rattle.raft_machine.specs.declared.command.Failure.{Failure}
use Rattle.raft_machine.specs.declared.command.Failure.TheVariants.{NotAnInteger, Overflow, TooLong}
use Rattle.raft_machine.specs.declared.command.Page.{Page}
use Rattle.raft_machine.specs.declared.command.Reply.{Reply}
use Rattle.raft_machine.specs.declared.command.Reply.TheVariants.{Done, Null, Integer, Count, Bulk, Values, Failed, Scanned}
use Rattle.raft_machine.specs.declared.machine.Answered.{Answered}
use Rattle.raft_machine.specs.Space.{Space, lives}
use Rattle.raft_machine.specs.Machine.{State}

-- 0, -1, 1, -2, .. as 0, 1, 2, 3, .. (Protocol Buffers, Encoding: ZigZag)
abbrev pub zigzag : ℤ → ℕ
zigzag (pos n) = 2 * n
zigzag (negsuc n) = 2 * n + 1

abbrev pub from_zigzag : ℕ → ℤ
from_zigzag n = if n % 2 == 0 then pos (n / 2) else negsuc (n / 2)

-- a number of 64 bits with a sign
unfoldable pub signed : Codec ℤ
signed = by_parts zigzag from_zigzag number

-- a tag tells failures apart
unfoldable pub failure : Codec Failure
failure = record { fits = λ _. Unit {0}; bytes = bytes; read = read } where
  bytes : Failure → List ℕ
  bytes NotAnInteger = 0 ∷ []
  bytes Overflow = 1 ∷ []
  bytes TooLong = 2 ∷ []

  read : List ℕ → Result (Failure × List ℕ) DecodeError
  read front = do
    tag ← tag_at front
    if tag.0 == 0 then Ok (NotAnInteger, tag.1)
        else if tag.0 == 1 then Ok (Overflow, tag.1)
        else if tag.0 == 2 then Ok (TooLong, tag.1)
        else unknown_tag tag.1

-- a value for each key, or none
abbrev pub values : Codec (List (Option (List ℕ)))
values = list (optional raw)

-- where the next step through the keys begins, and the keys
unfoldable pub page : Codec Page
page = by_parts (λ p. (p.cursor, p.keys)) (λ p. record { cursor = p.0; keys = p.1 }) (pair number (list raw))

-- a tag, and what the reply holds
unfoldable pub reply : Codec Reply
reply = record { fits = fits; bytes = bytes; read = read } where
  fits : Reply → Type 0
  fits Done = Unit {0}
  fits Null = Unit {0}
  fits (Integer n) = signed.fits n
  fits (Count n) = number.fits n
  fits (Bulk bs) = raw.fits bs
  fits (Values vs) = values.fits vs
  fits (Failed f) = failure.fits f
  fits (Scanned p) = page.fits p

  bytes : Reply → List ℕ
  bytes Done = 0 ∷ []
  bytes Null = 1 ∷ []
  bytes (Integer n) = 2 ∷ signed.bytes n
  bytes (Count n) = 3 ∷ number.bytes n
  bytes (Bulk bs) = 4 ∷ raw.bytes bs
  bytes (Values vs) = 5 ∷ values.bytes vs
  bytes (Failed f) = 6 ∷ failure.bytes f
  bytes (Scanned p) = 7 ∷ page.bytes p

  read : List ℕ → Result (Reply × List ℕ) DecodeError
  read front = do
    tag ← tag_at front
    if tag.0 == 0 then Ok (Done, tag.1)
        else if tag.0 == 1 then Ok (Null, tag.1)
        else if tag.0 == 2 then (signed.read tag.1 >>= λ n. Ok (Integer n.0, n.1))
        else if tag.0 == 3 then (number.read tag.1 >>= λ n. Ok (Count n.0, n.1))
        else if tag.0 == 4 then (raw.read tag.1 >>= λ bs. Ok (Bulk bs.0, bs.1))
        else if tag.0 == 5 then (values.read tag.1 >>= λ vs. Ok (Values vs.0, vs.1))
        else if tag.0 == 6 then (failure.read tag.1 >>= λ f. Ok (Failed f.0, f.1))
        else if tag.0 == 7 then (page.read tag.1 >>= λ p. Ok (Scanned p.0, p.1))
        else unknown_tag tag.1

-- a key, its value, and when it expires
unfoldable pub entry : Codec (List ℕ × Stored)
entry = by_parts
    (λ e. (e.0, (e.1.bytes, e.1.expires)))
    (λ p. (p.0, record { bytes = p.1.0; expires = p.1.1 }))
    (pair raw (pair raw (optional number)))

-- a client, its last request that was run, and what that was answered
unfoldable pub session : Codec (ℕ × Answered)
session = by_parts
    (λ s. (s.0, (s.1.number, s.1.replies)))
    (λ p. (p.0, record { number = p.1.0; replies = p.1.1 }))
    (pair number (pair number (list reply)))

-- ---- the keys at a moment

-- an entry's key is before the first of these
abbrev pub is_before : List ℕ × Stored → List (List ℕ × Stored) → Bool
is_before e [] = true
is_before e (f ∷ es) = is_lt (slice_cmp nat_cmp e.0 f.0)

-- each key is before the one after it
abbrev pub are_rising : List (List ℕ × Stored) → Bool
are_rising [] = true
are_rising (e ∷ es) = is_before e es && are_rising es

-- none has expired
abbrev pub are_live : ℕ → List (List ℕ × Stored) → Bool
are_live now es = list_all (λ e. lives now e.1.expires) es

-- the moment, and the keys in order with what is stored at each
unfoldable pub space : Codec Space
space = by_tested
    (λ s. (s.moment, entries s.map))
    (λ p. record { map = from_sorted p.1; moment = p.0 })
    (λ p. are_rising p.1 && are_live p.0 p.1)
    (pair number (list entry))

-- ---- what clients were answered

abbrev pub are_distinct : List (ℕ × Answered) → Bool
are_distinct [] = true
are_distinct (x ∷ xs) = not (list_any (λ y. nat_eq x.0 y.0) xs) && are_distinct xs

-- there are no more than may be, of which there is one at least
abbrev pub are_bounded : ℕ → List (ℕ × Answered) → Bool
are_bounded cap xs = nat_lt 0 cap && nat_le (length xs) cap

-- how many clients are remembered, and those that are, the latest first
unfoldable pub sessions : Codec (LruCache ℕ Answered)
sessions = by_tested
    (λ c. (c.cap, c.entries))
    (λ p. lru_cache p.1 p.0)
    (λ p. are_bounded p.0 p.1 && are_distinct p.1)
    (pair number (list session))

-- ---- the state

abbrev pub version : ℕ
version = 1

abbrev pub parts : Codec State
parts = by_parts (λ st. (st.space, st.sessions)) (λ p. record { space = p.0; sessions = p.1 }) (pair space sessions)

-- the version of the form, the keys, and what clients were answered
unfoldable pub state : Codec State
state = record {
  fits = parts.fits;
  bytes = λ st. version ∷ parts.bytes st;
  read = λ front. do
    tag ← tag_at front
    if tag.0 == version then parts.read tag.1 else Err (Malformed UnknownVersion (length front));
}
