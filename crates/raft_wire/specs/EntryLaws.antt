-- The codecs of entries and snapshots are inverse to their writers.
use Rattle.std.proofs.Common.{ℕ, ◌≡◌, ◌<◌, eqb, List, ◌++◌, length, Ok, refl, inl, inr, arith}
use Rattle.raft_store.specs.declared.entry.Payload.{Payload}
use Rattle.raft_store.specs.declared.entry.Payload.TheVariants.{Blank, Value, Membership}
use Rattle.raft_store.specs.declared.entry.Value.TheVariants.{Number, Bytes}
use Rattle.raft_codec.specs.Codec.{IsCodec, number, list, raw, tag_at}
use Rattle.raft_codec.specs.CodecLaws.{Stands, bind_ok, chosen, number_is, list_is, raw_is, pair_is, by_parts_is}
use Rattle.raft_codec.specs.VariantLaws.{bare_stands, variant_stands}
use Rattle.raft_wire.specs.Values.{log_id, membership, snapshot_meta}
use Rattle.raft_wire.specs.ValueLaws.{log_id_is, membership_is, snapshot_meta_is}
use Rattle.raft_wire.specs.Entries.{payload, entry, snapshot}

payload_some : (p : Payload) → 0 < length (payload.bytes p)
unfolding payload
payload_some Blank = omega arith
payload_some (Value (Number n)) = omega arith
payload_some (Value (Bytes b)) = omega arith
payload_some (Membership m) = omega arith

payload_back : (p : Payload) (rest : List ℕ) → payload.fits p → payload.read (payload.bytes p ++ rest) ≡ Ok (p, rest)
unfolding payload tag_at
payload_back Blank rest f = refl
payload_back (Value (Number n)) rest f = rw (number_is.read_back n rest f) refl
payload_back (Value (Bytes b)) rest f = rw (raw_is.read_back b rest f) refl
payload_back (Membership m) rest f = rw (membership_is.read_back m rest f) refl

payload_written : (front : List ℕ) (found : Payload × List ℕ) → payload.read front ≡ Ok found → Stands payload front found
unfolding payload
payload_written front found e =
    let t = bind_ok (tag_at front) _ found e in
    elim (chosen (eqb t.0.0 0) _ _ _ t.2) [
      | inl k ↦ bare_stands payload front found t.0 0 Blank t.1 k.0 k.1 tt refl
      | inr k ↦ elim (chosen (eqb t.0.0 1) _ _ _ k.1) [
        | inl l ↦ variant_stands payload front found t.0 1 number number_is (λ n. Value (Number n)) t.1 l.0 l.1 (λ x f. f) (λ x. refl)
        | inr l ↦ elim (chosen (eqb t.0.0 2) _ _ _ l.1) [
          | inl m ↦ variant_stands payload front found t.0 2 membership membership_is Membership t.1 m.0 m.1 (λ x f. f) (λ x. refl)
          | inr m ↦ elim (chosen (eqb t.0.0 3) _ _ _ m.1) [
            | inl b ↦ variant_stands payload front found t.0 3 raw raw_is (λ b. Value (Bytes b)) t.1 b.0 b.1 (λ x f. f) (λ x. refl)
            | inr b ↦ absurd cc
          ]
        ]
      ]
    ]

pub payload_is : IsCodec payload
payload_is = record { written = payload_written; some = payload_some; read_back = payload_back }

pub entry_is : IsCodec entry
unfolding entry
entry_is = by_parts_is _ _ _ (λ e. refl) (λ p. refl) (pair_is log_id payload log_id_is payload_is)

pub entries_is : IsCodec (list entry)
entries_is = list_is entry entry_is

pub snapshot_is : IsCodec snapshot
unfolding snapshot
snapshot_is = by_parts_is _ _ _ (λ s. refl) (λ p. refl) (pair_is snapshot_meta (list entry) snapshot_meta_is entries_is)
