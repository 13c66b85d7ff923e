-- The codecs of records are inverse to their writers.
use Rattle.std.proofs.Common.{ℕ, ◌≡◌, ◌<◌, eqb, List, ◌++◌, length, Ok, refl, inl, inr, arith}
use Rattle.raft_codec.specs.Codec.{Codec, IsCodec, number, list, pair, tag_at}
use Rattle.raft_codec.specs.CodecLaws.{Stands, bind_ok, chosen, number_is, list_is, pair_is, by_parts_is}
use Rattle.raft_codec.specs.VariantLaws.{bare_stands, variant_stands}
use Rattle.raft_wire.specs.Values.{log_id, snapshot_meta, vote}
use Rattle.raft_wire.specs.ValueLaws.{log_id_is, snapshot_meta_is, vote_is}
use Rattle.raft_wire.specs.Entries.{entry}
use Rattle.raft_wire.specs.EntryLaws.{entries_is}
use Rattle.raft_packed_node.specs.proof_packed.Stores.{Packed}
use Rattle.raft_packed_wire.specs.declared.named.Named.{Named}
use Rattle.raft_packed_wire.specs.declared.named.Named.TheVariants.{Whole, Folded}
use Rattle.raft_packed_wire.specs.declared.record.PackedBegan.{PackedBegan}
use Rattle.raft_packed_wire.specs.declared.record.PackedBegan.TheVariants.{Unchanged, Settled, Built}
use Rattle.raft_packed_wire.specs.declared.record.PackedChange.{PackedChange}
use Rattle.raft_packed_wire.specs.declared.record.PackedChange.TheVariants.{Vote, Append, Delete, Purge, Install}
use Rattle.raft_packed_wire.specs.Records.{named_began, named_logged, packed_change}

module _ {P : Type 0} (c : Codec P) (h : IsCodec c) where
  installed_is : IsCodec (pair snapshot_meta c)
  installed_is = pair_is snapshot_meta c snapshot_meta_is h

  change_some : (x : PackedChange P) → 0 < length ((packed_change c).bytes x)
  unfolding packed_change
  change_some (Vote v) = omega arith
  change_some (Append entries) = omega arith
  change_some (Delete since) = omega arith
  change_some (Purge upto) = omega arith
  change_some (Install meta p) = omega arith

  change_back : (x : PackedChange P) (rest : List ℕ) → (packed_change c).fits x → (packed_change c).read ((packed_change c).bytes x ++ rest) ≡ Ok (x, rest)
  unfolding packed_change tag_at
  change_back (Vote v) rest f = rw (vote_is.read_back v rest f) refl
  change_back (Append entries) rest f = rw (entries_is.read_back entries rest f) refl
  change_back (Delete since) rest f = rw (log_id_is.read_back since rest f) refl
  change_back (Purge upto) rest f = rw (log_id_is.read_back upto rest f) refl
  change_back (Install meta p) rest f = rw (installed_is.read_back (meta, p) rest f) refl

  change_written : (front : List ℕ) (found : PackedChange P × List ℕ) → (packed_change c).read front ≡ Ok found → Stands (packed_change c) front found
  unfolding packed_change
  change_written front found e =
      let whole = packed_change c in
      let t = bind_ok (tag_at front) _ found e in
      elim (chosen (eqb t.0.0 0) _ _ _ t.2) [
        | inl k ↦ variant_stands whole front found t.0 0 vote vote_is Vote t.1 k.0 k.1 (λ x f. f) (λ x. refl)
        | inr k ↦ elim (chosen (eqb t.0.0 1) _ _ _ k.1) [
          | inl l ↦ variant_stands whole front found t.0 1 (list entry) entries_is Append t.1 l.0 l.1 (λ x f. f) (λ x. refl)
          | inr l ↦ elim (chosen (eqb t.0.0 2) _ _ _ l.1) [
            | inl m ↦ variant_stands whole front found t.0 2 log_id log_id_is Delete t.1 m.0 m.1 (λ x f. f) (λ x. refl)
            | inr m ↦ elim (chosen (eqb t.0.0 3) _ _ _ m.1) [
              | inl n ↦ variant_stands whole front found t.0 3 log_id log_id_is Purge t.1 n.0 n.1 (λ x f. f) (λ x. refl)
              | inr n ↦ elim (chosen (eqb t.0.0 4) _ _ _ n.1) [
                | inl o ↦ variant_stands whole front found t.0 4 (pair snapshot_meta c) installed_is (λ p. Install p.0 p.1) t.1 o.0 o.1 (λ x f. f) (λ x. refl)
                | inr o ↦ absurd cc
              ]
            ]
          ]
        ]
      ]

  pub packed_change_is : IsCodec (packed_change c)
  packed_change_is = record { written = change_written; some = change_some; read_back = change_back }

module _ {S : Type 0} (c : Codec (Packed S)) (h : IsCodec c) where
  began_some : (b : PackedBegan (Named S)) → 0 < length ((named_began c).bytes b)
  unfolding named_began
  began_some Unchanged = omega arith
  began_some Settled = omega arith
  began_some (Built (Whole p)) = omega arith
  began_some (Built (Folded end)) = omega arith

  began_back : (b : PackedBegan (Named S)) (rest : List ℕ) → (named_began c).fits b → (named_began c).read ((named_began c).bytes b ++ rest) ≡ Ok (b, rest)
  unfolding named_began tag_at
  began_back Unchanged rest f = refl
  began_back Settled rest f = refl
  began_back (Built (Whole p)) rest f = rw (h.read_back p rest f) refl
  began_back (Built (Folded end)) rest f = rw (number_is.read_back end rest f) refl

  began_written : (front : List ℕ) (found : PackedBegan (Named S) × List ℕ) → (named_began c).read front ≡ Ok found → Stands (named_began c) front found
  unfolding named_began
  began_written front found e =
      let whole = named_began c in
      let t = bind_ok (tag_at front) _ found e in
      elim (chosen (eqb t.0.0 0) _ _ _ t.2) [
        | inl k ↦ bare_stands whole front found t.0 0 Unchanged t.1 k.0 k.1 tt refl
        | inr k ↦ elim (chosen (eqb t.0.0 1) _ _ _ k.1) [
          | inl l ↦ bare_stands whole front found t.0 1 Settled t.1 l.0 l.1 tt refl
          | inr l ↦ elim (chosen (eqb t.0.0 2) _ _ _ l.1) [
            | inl m ↦ variant_stands whole front found t.0 2 c h (λ p. Built (Whole p)) t.1 m.0 m.1 (λ x f. f) (λ x. refl)
            | inr m ↦ elim (chosen (eqb t.0.0 3) _ _ _ m.1) [
              | inl n ↦ variant_stands whole front found t.0 3 number number_is (λ end. Built (Folded end)) t.1 n.0 n.1 (λ x f. f) (λ x. refl)
              | inr n ↦ absurd cc
            ]
          ]
        ]
      ]

  pub named_began_is : IsCodec (named_began c)
  named_began_is = record { written = began_written; some = began_some; read_back = began_back }

  pub named_logged_is : IsCodec (named_logged c)
  unfolding named_logged
  named_logged_is = by_parts_is _ _ _ (λ r. refl) (λ q. refl)
      (pair_is number (pair (named_began c) (list (packed_change c))) number_is
      (pair_is (named_began c) (list (packed_change c)) named_began_is (list_is (packed_change c) (packed_change_is c h))))
