-- What a step's calls make of the store is seen as that in its bytes.
use Rattle.std.specs.Prelude.{ℕ, ◌≡◌, ◌↔◌, Bool, true, false, IsTrue, List, [], ◌∷◌, ◌++◌, OnOk, Result, if◌then◌else◌, refl}
use Rattle.std.proofs.Common.{ap, subst, sym, ◌∙◌}
use Rattle.std.proofs.lemmas.List.{append-nil}
use Rattle.std.proofs.lemmas.Result.{on_ok_weaker}
use Rattle.raft_codec.specs.Codec.{Codec, IsCodec, Writes}
use Rattle.proof_packed.specs.Stores.{Application, Packed, PackedStore}
use Rattle.raft_packed_wire.specs.declared.record.PackedBegan.{PackedBegan}
use Rattle.raft_packed_wire.specs.declared.record.PackedBegan.TheVariants.{Built, Settled, Unchanged}
use Rattle.raft_packed_wire.specs.declared.record.PackedChange.{PackedChange}
use Rattle.raft_packed_wire.specs.declared.named.Named.{Named}
use Rattle.raft_packed_wire.specs.declared.record.NamedRecord.{NamedRecord}
use Rattle.raft_packed_wire.specs.declared.record.PackedRecord.{PackedRecord}
use Rattle.raft_packed_wire.specs.Named.{IsBeganBy, IsNamedBy, StandFor}
use Rattle.raft_packed_wire.specs.Records.{named_began}
use Rattle.raft_packed_wire.specs.Values.{kept}
use Rattle.raft_packed_wire.proofs.RecordLaws.{named_began_is}
use Rattle.raft_packed_wire.proofs.ValueLaws.{kept_is}
use Rattle.proof_packed_servers.specs.Servers.{packed_left_of, packed_no_changes}
use Rattle.raft_packed_server.specs.Began.{AreBytesOfBegan, began_in, first_began, is_unchanged, named_left_of, named_no_changes}
use Rattle.raft_packed_server.specs.Encoded.{AreBytesOf}
use Rattle.raft_packed_server.proofs.Kept.{are_values}

module _ {S : Type 0} (c : Codec S) where
  abbrev form : Codec (PackedBegan (Named S))
  form = named_began (kept c)

  module _ (h : IsCodec c) (x : PackedBegan (Named S)) (old bs : List ℕ) (empty : old ≡ []) (written : form.fits x × (bs ≡ old ++ form.bytes x)) where
    are : AreBytesOf form (x ∷ []) 1 bs
    are = record { count = refl; fit = (written.0, tt); bytes = written.1 ∙ (ap (λ b. b ++ form.bytes x) empty ∙ sym (append-nil (form.bytes x))) }

    pub began_seen : began_in c bs ≡ x
    began_seen = ap first_began (are_values form (named_began_is (kept c) (kept_is c h)) (x ∷ []) 1 bs are)

    pub began_kept : (same : Bool) → same ≡ is_unchanged x → AreBytesOfBegan c same bs
    began_kept same is = record {
      one = subst (λ (b : PackedBegan (Named S)). AreBytesOf form (b ∷ []) 1 bs) (sym began_seen) are;
      nothing = is ∙ sym (ap is_unchanged began_seen);
    }

  -- it is written as its bytes
  pub began_written : {E : Type 0} (same : Bool) (bs old new : List ℕ) (r : Result (Unit {0}) E) → AreBytesOfBegan c same bs → OnOk r (new ≡ old ++ bs)
      → Writes form (began_in c bs) r old new
  began_written same bs old new r are more =
      on_ok_weaker r (λ e. (are.one.fit.0, e ∙ ap (λ b. old ++ b) (are.one.bytes ∙ append-nil (form.bytes (began_in c bs))))) more

-- whether a record would change nothing
module _ {S : Type 0} where
  pub no_change_some : (b : PackedBegan (Named S)) (cs : List (PackedChange (Packed S))) → is_unchanged b ≡ false → false ≡ named_no_changes b cs
  no_change_some Unchanged cs h = absurd cc
  no_change_some Settled cs h = refl
  no_change_some (Built n) cs h = refl

  pub no_change_none : (b : PackedBegan (Named S)) (cs : List (PackedChange (Packed S))) (empty : Bool) → is_unchanged b ≡ true
      → IsTrue empty ↔ (cs ≡ []) → empty ≡ named_no_changes b cs
  no_change_none Settled cs empty h none = absurd cc
  no_change_none (Built n) cs empty h none = absurd cc
  no_change_none Unchanged [] empty h none = none.1 refl
  no_change_none Unchanged (x ∷ cs) true h none = absurd (cc (none.0 refl))
  no_change_none Unchanged (x ∷ cs) false h none = refl

-- what is left of a record stands for what is left of the step's
module _ {S : Type 0} (app : Application S) (t : PackedStore S) where
  same_changes : (b : PackedBegan (Named S)) (d : PackedBegan (Packed S)) (cs : List (PackedChange (Packed S))) → IsBeganBy app t b d
      → named_no_changes b cs ≡ packed_no_changes d cs
  same_changes Unchanged Unchanged [] h = refl
  same_changes Unchanged Unchanged (c ∷ cs) h = refl
  same_changes Unchanged Settled cs h = absurd h
  same_changes Unchanged (Built p) cs h = absurd h
  same_changes Settled Unchanged cs h = absurd h
  same_changes Settled Settled cs h = refl
  same_changes Settled (Built p) cs h = absurd h
  same_changes (Built n) Unchanged cs h = absurd h
  same_changes (Built n) Settled cs h = absurd h
  same_changes (Built n) (Built p) cs h = refl

  pub left_stands : (is_reserved : Bool) (r : NamedRecord S) (q : PackedRecord (Packed S)) → IsNamedBy app t r q
      → StandFor app t (named_left_of is_reserved r) (packed_left_of is_reserved q)
  left_stands false r q is = (is, tt)
  left_stands true r q is =
      subst (λ (b : Bool). StandFor app t (if b then [] else r ∷ []) (packed_left_of true q))
      (sym (same_changes r.began q.began r.changes is.began ∙ ap (packed_no_changes q.began) is.changes)) (go (packed_no_changes q.began q.changes))
    where
      go : (b : Bool) → StandFor app t (if b then [] else r ∷ []) (if b then [] else q ∷ [])
      go true = tt
      go false = (is, tt)
