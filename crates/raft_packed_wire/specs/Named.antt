-- How a server's log names snapshots. A snapshot that was built is the stored one with entries of the log folded in (Raft paper, section 7), so
-- its end names it, beside the store that it was built on: the log needn't have a state's bytes.
use Rattle.std.specs.Prelude.{ℕ, ◌≡◌, List, [], ◌∷◌}
use Rattle.raft_packed_node.specs.raft_packed.Kept.{folded}
use Rattle.raft_packed_node.specs.proof_packed.Stores.{Application, Packed, PackedStore, packed_keep_snapshot}
use Rattle.raft_packed_wire.specs.declared.named.Named.{Named}
use Rattle.raft_packed_wire.specs.declared.named.Named.TheVariants.{Whole, Folded}
use Rattle.raft_packed_wire.specs.declared.record.NamedRecord.{NamedRecord}
use Rattle.raft_packed_wire.specs.declared.record.PackedBegan.{PackedBegan}
use Rattle.raft_packed_wire.specs.declared.record.PackedBegan.TheVariants.{Unchanged, Settled, Built}
use Rattle.raft_packed_wire.specs.declared.record.PackedRecord.{PackedRecord}
use Rattle.raft_packed_wire.specs.Records.{packed_replayed}

module _ {S : Type 0} (app : Application S) where
  -- the snapshot that a name names, beside a store; what a step's calls made, with it; and a record
  abbrev pub snapshot_of : PackedStore S → Named S → Packed S
  snapshot_of t (Whole p) = p
  snapshot_of t (Folded end) = folded app t end

  abbrev pub whole_began : PackedStore S → PackedBegan (Named S) → PackedBegan (Packed S)
  whole_began t Unchanged = Unchanged
  whole_began t Settled = Settled
  whole_began t (Built n) = Built (snapshot_of t n)

  abbrev pub whole_record : PackedStore S → NamedRecord S → PackedRecord (Packed S)
  whole_record t r = record { moment = r.moment; began = whole_began t r.began; changes = r.changes }

  -- A log's record stands for a step's, beside the store before it. Of a snapshot that was built it names one that leaves the same stored: any, if
  -- the built one isn't longer than the stored one.
  abbrev pub IsBeganBy : PackedStore S → PackedBegan (Named S) → PackedBegan (Packed S) → Type 0
  IsBeganBy t Unchanged Unchanged = Unit {0}
  IsBeganBy t Settled Settled = Unit {0}
  IsBeganBy t (Built n) (Built p) = packed_keep_snapshot (snapshot_of t n) t ≡ packed_keep_snapshot p t
  IsBeganBy t _ _ = ⊥

  pub record IsNamedBy (t : PackedStore S) (r : NamedRecord S) (q : PackedRecord (Packed S)) : Type 0 where
    pub moment : r.moment ≡ q.moment
    pub began : IsBeganBy t r.began q.began
    pub changes : r.changes ≡ q.changes

  -- a log's records stand for those of steps: each beside the store that those before it made of this one
  abbrev pub StandFor : PackedStore S → List (NamedRecord S) → List (PackedRecord (Packed S)) → Type 0
  StandFor t [] [] = Unit {0}
  StandFor t (r ∷ rs) (q ∷ qs) = IsNamedBy t r q × StandFor (packed_replayed app q t) rs qs
  StandFor t _ _ = ⊥
