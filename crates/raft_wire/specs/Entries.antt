-- The bytes of entries and snapshots.
use Rattle.std.specs.Prelude.{ℕ, ◌==◌, List, [], ◌∷◌, Result, Ok, if◌then◌else◌}
use Rattle.raft_store.specs.declared.entry.Entry.{Entry}
use Rattle.raft_store.specs.declared.entry.Payload.{Payload}
use Rattle.raft_store.specs.declared.entry.Payload.TheVariants.{Blank, Value, Membership}
use Rattle.raft_store.specs.declared.entry.Value.TheVariants.{Number, Bytes}
use Rattle.raft_store.specs.Types.{WorldSnapshot}
use Rattle.raft_codec.specs.declared.error.DecodeError.{DecodeError}
use Rattle.raft_codec.specs.Codec.{Codec, ◌>>=◌, number, list, raw, pair, by_parts, tag_at, unknown_tag}
use Rattle.raft_wire.specs.Values.{log_id, membership, snapshot_meta}

-- a payload: 0 a no-op, 1 and a number, 2 and a membership, 3 and bytes behind their number
unfoldable pub payload : Codec Payload
payload = record { fits = fits; bytes = bytes; read = read } where
  fits : Payload → Type 0
  fits Blank = Unit {0}
  fits (Value (Number n)) = number.fits n
  fits (Value (Bytes b)) = raw.fits b
  fits (Membership m) = membership.fits m

  bytes : Payload → List ℕ
  bytes Blank = 0 ∷ []
  bytes (Value (Number n)) = 1 ∷ number.bytes n
  bytes (Value (Bytes b)) = 3 ∷ raw.bytes b
  bytes (Membership m) = 2 ∷ membership.bytes m

  read : List ℕ → Result (Payload × List ℕ) DecodeError
  read front = do
    tag ← tag_at front
    if tag.0 == 0 then Ok (Blank, tag.1)
        else if tag.0 == 1 then (number.read tag.1 >>= λ n. Ok (Value (Number n.0), n.1))
        else if tag.0 == 2 then (membership.read tag.1 >>= λ m. Ok (Membership m.0, m.1))
        else if tag.0 == 3 then (raw.read tag.1 >>= λ b. Ok (Value (Bytes b.0), b.1))
        else unknown_tag tag.1

-- an entry: its log id, its payload
unfoldable pub entry : Codec Entry
entry = by_parts (λ e. (e.log_id, e.payload)) (λ p. record { log_id = p.0; payload = p.1 }) (pair log_id payload)

-- a snapshot: its meta, its entries
unfoldable pub snapshot : Codec WorldSnapshot
snapshot = by_parts (λ s. (s.meta, s.snapshot)) (λ p. record { meta = p.0; snapshot = p.1 }) (pair snapshot_meta (list entry))
