-- Commands as bytes.
use Rattle.std.specs.Prelude.{ℕ, ℤ, ◌==◌, List, ◌∷◌, Option, Result, Ok, if◌then◌else◌}
use Rattle.raft_codec.specs.declared.error.DecodeError.{DecodeError}
use Rattle.raft_codec.specs.Codec.{Codec, ◌>>=◌, number, raw, optional, list, pair, tag_at, unknown_tag}
use Rattle.raft_machine.specs.declared.command.Command.{Command}
use Rattle.raft_machine.specs.declared.command.Command.TheVariants.{Read, Set, SetMany, CompareAndSet, Append, Increment, Delete, Take, Expire, Persist}
use Rattle.raft_machine.specs.declared.command.ExpireCondition.{ExpireCondition}
use Rattle.raft_machine.specs.declared.command.SetOptions.{SetOptions}
use Rattle.raft_machine.specs.Bytes.{signed}
use Rattle.raft_request_codec.specs.Options.{set_options, expire_condition}
use Rattle.raft_request_codec.specs.Queries.{query, keys}

-- a key and its value
unfoldable pub key_value : Codec (List ℕ × List ℕ)
key_value = pair raw raw

-- what a command holds, in its order
unfoldable pub set_fields : Codec (List ℕ × (List ℕ × SetOptions))
set_fields = pair raw (pair raw set_options)

unfoldable pub compare_fields : Codec (List ℕ × (Option (List ℕ) × List ℕ))
compare_fields = pair raw (pair (optional raw) raw)

unfoldable pub increment_fields : Codec (List ℕ × ℤ)
increment_fields = pair raw signed

unfoldable pub expire_fields : Codec (List ℕ × (ℕ × ExpireCondition))
expire_fields = pair raw (pair number expire_condition)

-- what is read of them
abbrev pub set_at : List ℕ → Result (Command × List ℕ) DecodeError
set_at front = set_fields.read front >>= λ x. Ok (Set x.0.0 x.0.1.0 x.0.1.1, x.1)

abbrev pub compare_at : List ℕ → Result (Command × List ℕ) DecodeError
compare_at front = compare_fields.read front >>= λ x. Ok (CompareAndSet x.0.0 x.0.1.0 x.0.1.1, x.1)

abbrev pub append_at : List ℕ → Result (Command × List ℕ) DecodeError
append_at front = key_value.read front >>= λ x. Ok (Append x.0.0 x.0.1, x.1)

abbrev pub increment_at : List ℕ → Result (Command × List ℕ) DecodeError
increment_at front = increment_fields.read front >>= λ x. Ok (Increment x.0.0 x.0.1, x.1)

abbrev pub expire_at : List ℕ → Result (Command × List ℕ) DecodeError
expire_at front = expire_fields.read front >>= λ x. Ok (Expire x.0.0 x.0.1.0 x.0.1.1, x.1)

-- a tag, and what the command holds
unfoldable pub command : Codec Command
command = record { fits = fits; bytes = bytes; read = read } where
  fits : Command → Type 0
  fits (Read q) = query.fits q
  fits (Set k v o) = set_fields.fits (k, (v, o))
  fits (SetMany ps) = (list key_value).fits ps
  fits (CompareAndSet k e v) = compare_fields.fits (k, (e, v))
  fits (Append k v) = key_value.fits (k, v)
  fits (Increment k n) = increment_fields.fits (k, n)
  fits (Delete ks) = keys.fits ks
  fits (Take k) = raw.fits k
  fits (Expire k t c) = expire_fields.fits (k, (t, c))
  fits (Persist k) = raw.fits k

  bytes : Command → List ℕ
  bytes (Read q) = 0 ∷ query.bytes q
  bytes (Set k v o) = 1 ∷ set_fields.bytes (k, (v, o))
  bytes (SetMany ps) = 2 ∷ (list key_value).bytes ps
  bytes (CompareAndSet k e v) = 3 ∷ compare_fields.bytes (k, (e, v))
  bytes (Append k v) = 4 ∷ key_value.bytes (k, v)
  bytes (Increment k n) = 5 ∷ increment_fields.bytes (k, n)
  bytes (Delete ks) = 6 ∷ keys.bytes ks
  bytes (Take k) = 7 ∷ raw.bytes k
  bytes (Expire k t c) = 8 ∷ expire_fields.bytes (k, (t, c))
  bytes (Persist k) = 9 ∷ raw.bytes k

  read : List ℕ → Result (Command × List ℕ) DecodeError
  read front = do
    tag ← tag_at front
    if tag.0 == 0 then (query.read tag.1 >>= λ x. Ok (Read x.0, x.1))
        else if tag.0 == 1 then set_at tag.1
        else if tag.0 == 2 then ((list key_value).read tag.1 >>= λ x. Ok (SetMany x.0, x.1))
        else if tag.0 == 3 then compare_at tag.1
        else if tag.0 == 4 then append_at tag.1
        else if tag.0 == 5 then increment_at tag.1
        else if tag.0 == 6 then (keys.read tag.1 >>= λ x. Ok (Delete x.0, x.1))
        else if tag.0 == 7 then (raw.read tag.1 >>= λ x. Ok (Take x.0, x.1))
        else if tag.0 == 8 then expire_at tag.1
        else if tag.0 == 9 then (raw.read tag.1 >>= λ x. Ok (Persist x.0, x.1))
        else unknown_tag tag.1
