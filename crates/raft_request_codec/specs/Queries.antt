-- Queries as bytes.
use Rattle.std.specs.Prelude.{ℕ, ◌==◌, List, [], ◌∷◌, Result, Ok, if◌then◌else◌}
use Rattle.raft_codec.specs.declared.error.DecodeError.{DecodeError}
use Rattle.raft_codec.specs.Codec.{Codec, ◌>>=◌, number, raw, flag, optional, list, pair, by_parts, tag_at, unknown_tag}
use Rattle.raft_machine.specs.declared.command.ScanOptions.{ScanOptions}
use Rattle.raft_machine.specs.declared.command.Query.{Query}
use Rattle.raft_machine.specs.declared.command.Query.TheVariants.{Get, GetMany, Exists, Length, Size, Remaining, RemainingSeconds, Deadline, DeadlineSeconds, Scan}

-- a step through the keys
unfoldable pub scan_options : Codec ScanOptions
scan_options = by_parts
    (λ o. (o.cursor, (o.count, (o.pattern, o.of_strings))))
    (λ p. record { cursor = p.0; count = p.1.0; pattern = p.1.1.0; of_strings = p.1.1.1 })
    (pair number (pair number (pair (optional raw) flag)))

-- keys
abbrev pub keys : Codec (List (List ℕ))
keys = list raw

-- a tag, and what the query holds
unfoldable pub query : Codec Query
query = record { fits = fits; bytes = bytes; read = read } where
  fits : Query → Type 0
  fits (Get k) = raw.fits k
  fits (GetMany ks) = keys.fits ks
  fits (Exists ks) = keys.fits ks
  fits (Length k) = raw.fits k
  fits Size = Unit {0}
  fits (Remaining k) = raw.fits k
  fits (RemainingSeconds k) = raw.fits k
  fits (Deadline k) = raw.fits k
  fits (DeadlineSeconds k) = raw.fits k
  fits (Scan o) = scan_options.fits o

  bytes : Query → List ℕ
  bytes (Get k) = 0 ∷ raw.bytes k
  bytes (GetMany ks) = 1 ∷ keys.bytes ks
  bytes (Exists ks) = 2 ∷ keys.bytes ks
  bytes (Length k) = 3 ∷ raw.bytes k
  bytes Size = 4 ∷ []
  bytes (Remaining k) = 5 ∷ raw.bytes k
  bytes (RemainingSeconds k) = 6 ∷ raw.bytes k
  bytes (Deadline k) = 7 ∷ raw.bytes k
  bytes (DeadlineSeconds k) = 8 ∷ raw.bytes k
  bytes (Scan o) = 9 ∷ scan_options.bytes o

  read : List ℕ → Result (Query × List ℕ) DecodeError
  read front = do
    tag ← tag_at front
    if tag.0 == 0 then (raw.read tag.1 >>= λ x. Ok (Get x.0, x.1))
        else if tag.0 == 1 then (keys.read tag.1 >>= λ x. Ok (GetMany x.0, x.1))
        else if tag.0 == 2 then (keys.read tag.1 >>= λ x. Ok (Exists x.0, x.1))
        else if tag.0 == 3 then (raw.read tag.1 >>= λ x. Ok (Length x.0, x.1))
        else if tag.0 == 4 then Ok (Size, tag.1)
        else if tag.0 == 5 then (raw.read tag.1 >>= λ x. Ok (Remaining x.0, x.1))
        else if tag.0 == 6 then (raw.read tag.1 >>= λ x. Ok (RemainingSeconds x.0, x.1))
        else if tag.0 == 7 then (raw.read tag.1 >>= λ x. Ok (Deadline x.0, x.1))
        else if tag.0 == 8 then (raw.read tag.1 >>= λ x. Ok (DeadlineSeconds x.0, x.1))
        else if tag.0 == 9 then (scan_options.read tag.1 >>= λ x. Ok (Scan x.0, x.1))
        else unknown_tag tag.1
