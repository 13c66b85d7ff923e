-- What records of a log stand for.
use Rattle.std.proofs.Common.{ℕ, ◌≡◌, ◌∙◌, List, [], ◌∷◌, ◌++◌, Option, refl, sym, ap, subst}
use Rattle.std.specs.Prelude.{Bool, true, false, fold, if◌then◌else◌, nat_lt}
use Rattle.raft_state.specs.declared.ids.LogId.{LogId}
use Rattle.raft_packed_node.specs.proof_packed.Stores.{Application, Packed, PackedStore, packed_keep_snapshot, packed_meta}
use Rattle.raft_packed_wire.specs.declared.named.Named.{Named}
use Rattle.raft_packed_wire.specs.declared.named.Named.TheVariants.{Whole, Folded}
use Rattle.raft_packed_wire.specs.declared.record.NamedRecord.{NamedRecord}
use Rattle.raft_packed_wire.specs.declared.record.PackedBegan.{PackedBegan}
use Rattle.raft_packed_wire.specs.declared.record.PackedBegan.TheVariants.{Unchanged, Settled, Built}
use Rattle.raft_packed_wire.specs.declared.record.PackedRecord.{PackedRecord}
use Rattle.raft_packed_wire.specs.Named.{IsBeganBy, IsNamedBy, StandFor, snapshot_of, whole_began, whole_record}
use Rattle.raft_packed_wire.specs.Records.{packed_begun, packed_changed, packed_on_disk, packed_replayed}
use Rattle.raft_packed_wire.proofs.Replays.{replayed_same}

module _ {S : Type 0} (app : Application S) where
  -- a store with another saved committed id, and with other entries applied
  abbrev beside : Option (LogId ℕ) → Packed S → PackedStore S → PackedStore S
  beside saved applied t = record t { saved = saved; applied = applied }

  -- the store after records
  abbrev pub replayed_all : PackedStore S → List (PackedRecord (Packed S)) → PackedStore S
  replayed_all t qs = fold (λ u q. packed_replayed app q u) t qs

  -- ---- beside stores that are the same on disk

  kept_beside : (p : Packed S) (saved : Option (LogId ℕ)) (applied : Packed S) (t : PackedStore S)
      → packed_keep_snapshot p (beside saved applied t) ≡ beside saved applied (packed_keep_snapshot p t)
  kept_beside p saved applied t = go (nat_lt t.snap.end p.end)
    where
      go : (b : Bool)
          → ◌≡◌ {A = PackedStore S} (if b then record t { meta = packed_meta p; snap = p; saved = saved; applied = applied } else beside saved applied t)
          (beside saved applied (if b then record t { meta = packed_meta p; snap = p } else t))
      go true = refl
      go false = refl

  named_beside : (n : Named S) (saved : Option (LogId ℕ)) (applied : Packed S) (t : PackedStore S)
      → snapshot_of app (beside saved applied t) n ≡ snapshot_of app t n
  named_beside (Whole p) saved applied t = refl
  named_beside (Folded end) saved applied t = refl

  began_beside : (b : PackedBegan (Named S)) (d : PackedBegan (Packed S)) (saved : Option (LogId ℕ)) (applied : Packed S) (t : PackedStore S)
      → IsBeganBy app t b d → IsBeganBy app (beside saved applied t) b d
  began_beside Unchanged Unchanged saved applied t h = h
  began_beside Unchanged Settled saved applied t h = h
  began_beside Unchanged (Built p) saved applied t h = h
  began_beside Settled Unchanged saved applied t h = h
  began_beside Settled Settled saved applied t h = h
  began_beside Settled (Built p) saved applied t h = h
  began_beside (Built n) Unchanged saved applied t h = h
  began_beside (Built n) Settled saved applied t h = h
  began_beside (Built n) (Built p) saved applied t h =
      ap (λ (q : Packed S). packed_keep_snapshot q (beside saved applied t)) (named_beside n saved applied t)
      ∙ (kept_beside (snapshot_of app t n) saved applied t ∙ (ap (beside saved applied) h ∙ sym (kept_beside p saved applied t)))

  other_is : (t u : PackedStore S) → packed_on_disk app t ≡ packed_on_disk app u → beside u.saved u.applied t ≡ u
  other_is t u same = ap (beside u.saved u.applied) same

  named_same : (t u : PackedStore S) → packed_on_disk app t ≡ packed_on_disk app u → (r : NamedRecord S) (q : PackedRecord (Packed S))
      → IsNamedBy app t r q → IsNamedBy app u r q
  named_same t u same r q h = record {
    moment = h.moment;
    began = subst (λ x. IsBeganBy app x r.began q.began) (other_is t u same) (began_beside r.began q.began u.saved u.applied t h.began);
    changes = h.changes;
  }

  pub replayed_all_same : (t u : PackedStore S) → packed_on_disk app t ≡ packed_on_disk app u → (qs : List (PackedRecord (Packed S)))
      → packed_on_disk app (replayed_all t qs) ≡ packed_on_disk app (replayed_all u qs)
  replayed_all_same t u same [] = same
  replayed_all_same t u same (q ∷ qs) =
      replayed_all_same (packed_replayed app q t) (packed_replayed app q u) (replayed_same app q t u same) qs

  pub stand_same : (t u : PackedStore S) → packed_on_disk app t ≡ packed_on_disk app u → (rs : List (NamedRecord S)) (qs : List (PackedRecord (Packed S)))
      → StandFor app t rs qs → StandFor app u rs qs
  stand_same t u same [] [] h = h
  stand_same t u same [] (q ∷ qs) h = h
  stand_same t u same (r ∷ rs) [] h = h
  stand_same t u same (r ∷ rs) (q ∷ qs) h =
      (named_same t u same r q h.0, stand_same (packed_replayed app q t) (packed_replayed app q u) (replayed_same app q t u same) rs qs h.1)

  -- ---- one behind the other

  pub stand_join : (t : PackedStore S) (rs more : List (NamedRecord S)) (qs others : List (PackedRecord (Packed S))) → StandFor app t rs qs
      → StandFor app (replayed_all t qs) more others → StandFor app t (rs ++ more) (qs ++ others)
  stand_join t [] more [] others h k = k
  stand_join t [] more (q ∷ qs) others h k = absurd h
  stand_join t (r ∷ rs) more [] others h k = absurd h
  stand_join t (r ∷ rs) more (q ∷ qs) others h k = (h.0, stand_join (packed_replayed app q t) rs more qs others h.1 k)

  -- none stand for none alone
  pub none_stand : (t : PackedStore S) (qs : List (PackedRecord (Packed S))) → StandFor app t [] qs → qs ≡ []
  none_stand t [] h = refl
  none_stand t (q ∷ qs) h = absurd h

  pub stand_for_none : (t : PackedStore S) (rs : List (NamedRecord S)) → StandFor app t rs [] → rs ≡ []
  stand_for_none t [] h = refl
  stand_for_none t (r ∷ rs) h = absurd h

  -- ---- each record of a log has one that it stands for, and makes the same of the store

  whole_is : (t : PackedStore S) (b : PackedBegan (Named S)) → IsBeganBy app t b (whole_began app t b)
  whole_is t Unchanged = tt
  whole_is t Settled = tt
  whole_is t (Built n) = refl

  abbrev pub wholes : PackedStore S → List (NamedRecord S) → List (PackedRecord (Packed S))
  wholes t [] = []
  wholes t (r ∷ rs) = whole_record app t r ∷ wholes (packed_replayed app (whole_record app t r) t) rs

  pub wholes_stand : (t : PackedStore S) (rs : List (NamedRecord S)) → StandFor app t rs (wholes t rs)
  wholes_stand t [] = tt
  wholes_stand t (r ∷ rs) =
      (record { moment = refl; began = whole_is t r.began; changes = refl }, wholes_stand (packed_replayed app (whole_record app t r) t) rs)

  begun_by : (t : PackedStore S) (b : PackedBegan (Named S)) (d : PackedBegan (Packed S)) → IsBeganBy app t b d
      → packed_begun app (whole_began app t b) t ≡ packed_begun app d t
  begun_by t Unchanged Unchanged h = refl
  begun_by t Unchanged Settled h = absurd h
  begun_by t Unchanged (Built p) h = absurd h
  begun_by t Settled Unchanged h = absurd h
  begun_by t Settled Settled h = refl
  begun_by t Settled (Built p) h = absurd h
  begun_by t (Built n) Unchanged h = absurd h
  begun_by t (Built n) Settled h = absurd h
  begun_by t (Built n) (Built p) h = h

  pub replayed_by : (t : PackedStore S) (r : NamedRecord S) (q : PackedRecord (Packed S)) → IsNamedBy app t r q
      → packed_replayed app (whole_record app t r) t ≡ packed_replayed app q t
  replayed_by t r q h = λ i. fold (packed_changed app) (begun_by t r.began q.began h.began i) (h.changes i)

  -- the same record is named beside stores that are the same on disk
  began_whole : (b : PackedBegan (Named S)) (saved : Option (LogId ℕ)) (applied : Packed S) (t : PackedStore S)
      → whole_began app (beside saved applied t) b ≡ whole_began app t b
  began_whole Unchanged saved applied t = refl
  began_whole Settled saved applied t = refl
  began_whole (Built n) saved applied t = ap Built (named_beside n saved applied t)

  pub whole_same : (t u : PackedStore S) → packed_on_disk app t ≡ packed_on_disk app u → (r : NamedRecord S)
      → packed_on_disk app (packed_replayed app (whole_record app t r) t) ≡ packed_on_disk app (packed_replayed app (whole_record app u r) u)
  whole_same t u same r =
      replayed_same app (whole_record app t r) t u same
      ∙ ap (λ (b : PackedBegan (Packed S)). packed_on_disk app (packed_replayed app (record { moment = r.moment; began = b; changes = r.changes }) u))
      (sym (began_whole r.began u.saved u.applied t) ∙ ap (λ x. whole_began app x r.began) (other_is t u same))
