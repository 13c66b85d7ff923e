-- What is kept of entries, as bytes in pieces.
use Rattle.std.specs.Prelude.{ℕ, ◌≡◌, List, ◌++◌}
use Rattle.raft_codec.specs.Codec.{Codec}
use Rattle.raft_packed_node.specs.proof_packed.Stores.{Packed, PackedStore}
use Rattle.raft_packed_node.specs.raft_packed.Kept.{SummaryView, with_state}
use Rattle.raft_packed_node.specs.raft_packed.declared.place.Place.{Place}
use Rattle.raft_packed_node.specs.raft_packed.declared.place.Place.TheVariants.{End}
use Rattle.raft_packed_wire.specs.declared.packed.PackedPlace.{PackedPlace}
use Rattle.raft_packed_wire.specs.declared.packed.PackedPlace.TheVariants.{Front, State}
use Rattle.raft_packed_wire.specs.declared.record.PackedChange.TheVariants.{Install}
use Rattle.raft_packed_wire.specs.Checkpoints.{named_snapshot}
use Rattle.raft_packed_wire.specs.Records.{named_logged, packed_change}
use Rattle.raft_packed_wire.specs.Values.{kept}

module _ {S : Type 0} (c : Codec S) where
  -- what stands before a state in a value with it was appended
  abbrev pub WritesFront : {X : Type 0} → Codec X → X → S → List ℕ → List ℕ → Type 0
  WritesFront whole x state old new = (c.fits state → whole.fits x) × (new ++ c.bytes state ≡ old ++ whole.bytes x)

  -- in what is kept of entries: whatever their state, and with this one
  abbrev pub WritesSummary : SummaryView → List ℕ → List ℕ → Type 0
  WritesSummary k old new = (state : S) → WritesFront (kept c) (with_state k state) state old new

  abbrev pub WritesPackedFront : Packed S → List ℕ → List ℕ → Type 0
  WritesPackedFront p old new = WritesFront (kept c) p p.state old new

  -- in that a store's snapshot is installed, and in its record
  abbrev pub WritesInstallFront : PackedStore S → List ℕ → List ℕ → Type 0
  WritesInstallFront t old new = WritesFront (packed_change (kept c)) (Install t.meta t.snap) t.snap.state old new

  abbrev pub WritesSnapshotFront : PackedStore S → List ℕ → List ℕ → Type 0
  WritesSnapshotFront t old new = WritesFront (named_logged (kept c)) (named_snapshot t) t.snap.state old new

-- by what is left of a state at a place of its own, and whether that can be written
module _ {S : Type 0} (c : Codec S) (left : S → Place → List ℕ) (fits : S → Place → Type 0) where
  abbrev pub packed_left : Packed S → PackedPlace → List ℕ
  packed_left p Front = (kept c).bytes p
  packed_left p (State at) = left p.state at

  abbrev pub packed_fits_left : Packed S → PackedPlace → Type 0
  packed_fits_left p Front = (kept c).fits p
  packed_fits_left p (State at) = fits p.state at

  -- what stands between two places was appended
  abbrev pub PackedGoesOn : Packed S → PackedPlace → PackedPlace → List ℕ → List ℕ → Type 0
  PackedGoesOn p at next old new = (packed_fits_left p next → packed_fits_left p at) × (new ++ packed_left p next ≡ old ++ packed_left p at)

  -- steps in turn are one, and from the first byte to behind the last one all was appended
  pub record PiecesAreWholeOf : Type 0 where
    pub joined : (p : Packed S) (at mid next : PackedPlace) (old between new : List ℕ)
        → PackedGoesOn p at mid old between → PackedGoesOn p mid next between new → PackedGoesOn p at next old new
    pub whole : (p : Packed S) (old new : List ℕ) → PackedGoesOn p Front (State End) old new → (kept c).fits p × (new ≡ old ++ (kept c).bytes p)
