-- The codecs of records are inverse to their writers.
use Rattle.std.proofs.Common.{ℕ, ◌≡◌, ◌<◌, eqb, List, ◌++◌, length, Ok, refl, inl, inr, arith}
use Rattle.raft_wire.specs.declared.record.Began.{Began}
use Rattle.raft_wire.specs.declared.record.Began.TheVariants.{Unchanged, Settled, Built}
use Rattle.raft_wire.specs.declared.record.Change.{Change}
use Rattle.raft_wire.specs.declared.record.Change.TheVariants.{Vote, Append, Delete, Purge, Install}
use Rattle.raft_codec.specs.Codec.{IsCodec, number, list, pair, tag_at}
use Rattle.raft_codec.specs.CodecLaws.{Stands, bind_ok, chosen, number_is, list_is, pair_is, by_parts_is}
use Rattle.raft_codec.specs.VariantLaws.{bare_stands, variant_stands}
use Rattle.raft_wire.specs.Values.{log_id, vote}
use Rattle.raft_wire.specs.ValueLaws.{log_id_is, vote_is}
use Rattle.raft_wire.specs.Entries.{entry, snapshot}
use Rattle.raft_wire.specs.EntryLaws.{entries_is, snapshot_is}
use Rattle.raft_wire.specs.Records.{began, change, logged}

began_some : (b : Began) → 0 < length (began.bytes b)
unfolding began
began_some Unchanged = omega arith
began_some Settled = omega arith
began_some (Built entries) = omega arith

began_back : (b : Began) (rest : List ℕ) → began.fits b → began.read (began.bytes b ++ rest) ≡ Ok (b, rest)
unfolding began tag_at
began_back Unchanged rest f = refl
began_back Settled rest f = refl
began_back (Built entries) rest f = rw (entries_is.read_back entries rest f) refl

began_written : (front : List ℕ) (found : Began × List ℕ) → began.read front ≡ Ok found → Stands began front found
unfolding began
began_written front found e =
    let t = bind_ok (tag_at front) _ found e in
    elim (chosen (eqb t.0.0 0) _ _ _ t.2) [
      | inl k ↦ bare_stands began front found t.0 0 Unchanged t.1 k.0 k.1 tt refl
      | inr k ↦ elim (chosen (eqb t.0.0 1) _ _ _ k.1) [
        | inl l ↦ bare_stands began front found t.0 1 Settled t.1 l.0 l.1 tt refl
        | inr l ↦ elim (chosen (eqb t.0.0 2) _ _ _ l.1) [
          | inl m ↦ variant_stands began front found t.0 2 (list entry) entries_is Built t.1 m.0 m.1 (λ x f. f) (λ x. refl)
          | inr m ↦ absurd cc
        ]
      ]
    ]

pub began_is : IsCodec began
began_is = record { written = began_written; some = began_some; read_back = began_back }

change_some : (c : Change) → 0 < length (change.bytes c)
unfolding change
change_some (Vote v) = omega arith
change_some (Append entries) = omega arith
change_some (Delete since) = omega arith
change_some (Purge upto) = omega arith
change_some (Install s) = omega arith

change_back : (c : Change) (rest : List ℕ) → change.fits c → change.read (change.bytes c ++ rest) ≡ Ok (c, rest)
unfolding change tag_at
change_back (Vote v) rest f = rw (vote_is.read_back v rest f) refl
change_back (Append entries) rest f = rw (entries_is.read_back entries rest f) refl
change_back (Delete since) rest f = rw (log_id_is.read_back since rest f) refl
change_back (Purge upto) rest f = rw (log_id_is.read_back upto rest f) refl
change_back (Install s) rest f = rw (snapshot_is.read_back s rest f) refl

change_written : (front : List ℕ) (found : Change × List ℕ) → change.read front ≡ Ok found → Stands change front found
unfolding change
change_written front found e =
    let t = bind_ok (tag_at front) _ found e in
    elim (chosen (eqb t.0.0 0) _ _ _ t.2) [
      | inl k ↦ variant_stands change front found t.0 0 vote vote_is Vote t.1 k.0 k.1 (λ x f. f) (λ x. refl)
      | inr k ↦ elim (chosen (eqb t.0.0 1) _ _ _ k.1) [
        | inl l ↦ variant_stands change front found t.0 1 (list entry) entries_is Append t.1 l.0 l.1 (λ x f. f) (λ x. refl)
        | inr l ↦ elim (chosen (eqb t.0.0 2) _ _ _ l.1) [
          | inl m ↦ variant_stands change front found t.0 2 log_id log_id_is Delete t.1 m.0 m.1 (λ x f. f) (λ x. refl)
          | inr m ↦ elim (chosen (eqb t.0.0 3) _ _ _ m.1) [
            | inl n ↦ variant_stands change front found t.0 3 log_id log_id_is Purge t.1 n.0 n.1 (λ x f. f) (λ x. refl)
            | inr n ↦ elim (chosen (eqb t.0.0 4) _ _ _ n.1) [
              | inl o ↦ variant_stands change front found t.0 4 snapshot snapshot_is Install t.1 o.0 o.1 (λ x f. f) (λ x. refl)
              | inr o ↦ absurd cc
            ]
          ]
        ]
      ]
    ]

pub change_is : IsCodec change
change_is = record { written = change_written; some = change_some; read_back = change_back }

pub logged_is : IsCodec logged
unfolding logged
logged_is = by_parts_is _ _ _ (λ r. refl) (λ p. refl) (pair_is number (pair began (list change)) number_is (pair_is began (list change) began_is (list_is change change_is)))
