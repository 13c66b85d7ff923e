-- What is noted for a snapshot, by what is kept of it but its state.
use Rattle.std.specs.Prelude.{◌≡◌, Option, None, Some, refl}
use Rattle.std.proofs.Common.{ap, subst, sym, ◌∙◌}
use Rattle.std.specs.Option.{option_map}
use Rattle.raft_store.specs.Types.{EngineView}
use Rattle.raft_schedule.specs.declared.event.SkipReason.TheVariants.{NothingBuilt}
use Rattle.raft_node.specs.Snapshots.{skip_finish}
use Rattle.proof_packed.specs.Nodes.{PackedNode, without_store}
use Rattle.proof_packed.specs.Stores.{Application, Packed}
use Rattle.raft_packed.specs.Kept.{SummaryView, summary_of}
use Rattle.raft_packed_node.specs.Held.{PackedNoteFits, PackedNotedFits}

abbrev inner : SummaryView → Option SummaryView → SummaryView
inner k None = k
inner k (Some x) = x

abbrev engine_in : EngineView → Option EngineView → EngineView
engine_in e None = e
engine_in e (Some x) = x

module _ {S : Type 0} where
  -- what holds of each that is noted holds of what is kept of it
  pub of_noted : (P : SummaryView → Type 0) (o : Option (Packed S)) (k : SummaryView) → option_map summary_of o ≡ Some k → ((p : Packed S) → o ≡ Some p → P (summary_of p)) → P k
  of_noted P None k is h = absurd cc
  of_noted P (Some p) k is h = subst P (ap (inner k) is) (h p refl)

  -- it fits as it does
  pub fits_so : (e : EngineView) (p : Packed S) → PackedNoteFits e p → PackedNoteFits e (summary_of p)
  fits_so e p h = record { fit = h.fit; committed = h.committed }

  pub fits_as : (e : EngineView) (p : Packed S) → PackedNoteFits e (summary_of p) → PackedNoteFits e p
  fits_as e p h = record { fit = h.fit; committed = h.committed }

  -- what is kept of a note that fits does
  pub summary_fits : (e : EngineView) (engine : Option EngineView) (o : Option (Packed S)) (k : SummaryView)
      → PackedNotedFits engine o → engine ≡ Some e → option_map summary_of o ≡ Some k → PackedNoteFits e k
  summary_fits e engine o k fits runs is = of_noted (PackedNoteFits e) o k is (λ p noted. fits_so e p (fits e p runs noted))

  -- and if it does, so does the note
  pub note_fits : (e : EngineView) (engine : Option EngineView) (o : Option (Packed S)) (k : SummaryView)
      → engine ≡ Some e → option_map summary_of o ≡ Some k → PackedNoteFits e k → PackedNotedFits engine o
  note_fits e engine o k runs is fits = λ x p run noted.
      let same : e ≡ x = ap (engine_in e) (sym runs ∙ run) in
      let whole : k ≡ summary_of p = ap (inner k) (sym is ∙ ap (option_map summary_of) noted) in
      fits_as x p (subst (λ (y : EngineView). PackedNoteFits y (summary_of p)) same (subst (PackedNoteFits e) whole fits))

module _ {S : Type 0} (app : Application S) where
  -- the end of a build is skipped if nothing is noted
  pub skip_none : (n : PackedNode S) → option_map summary_of n.noted ≡ None → Some NothingBuilt ≡ skip_finish (without_store app n)
  skip_none n h = none_by n.noted h
    where
      none_by : (o : Option (Packed S)) → option_map summary_of o ≡ None → Some NothingBuilt ≡ skip_finish (without_store app (record n { noted = o }))
      none_by None h = refl
      none_by (Some p) h = absurd cc

  pub skip_some : (n : PackedNode S) (k : SummaryView) → option_map summary_of n.noted ≡ Some k → None ≡ skip_finish (without_store app n)
  skip_some n k h = some_by n.noted h
    where
      some_by : (o : Option (Packed S)) → option_map summary_of o ≡ Some k → None ≡ skip_finish (without_store app (record n { noted = o }))
      some_by None h = absurd cc
      some_by (Some p) h = refl
