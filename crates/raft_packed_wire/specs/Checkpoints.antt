-- A checkpoint of a store: records that make of a new store one that is the same on disk. So a log may begin with them, and the records that
-- made the store need not stay (Raft paper, section 7: a snapshot stands for the log up to it). The snapshot has a record of its own, so that
-- its bytes can be made before the others are known.
use Rattle.std.specs.Prelude.{ℕ, ◌≡◌, ◌≤◌, ◌+◌, List, [], ◌∷◌, ◌++◌, fold, map}
use Rattle.std.specs.Map.{values_of}
use Rattle.std.specs.Option.{option_to_list}
use Rattle.raft_state.specs.LogLaws.{IsRun}
use Rattle.raft_state.specs.Order.{next}
use Rattle.raft_store.specs.declared.entry.Entry.{Entry}
use Rattle.raft_store.specs.Entries.{entry_meaning}
use Rattle.raft_store.specs.Mirror.{keyed}
use Rattle.raft_store.specs.Store.{no_store}
use Rattle.raft_packed_node.specs.proof_packed.Stores.{Application, Packed, PackedStore, packed_store}
use Rattle.raft_packed_wire.specs.declared.record.NamedRecord.{NamedRecord}
use Rattle.raft_packed_wire.specs.declared.record.PackedBegan.TheVariants.{Unchanged}
use Rattle.raft_packed_wire.specs.declared.record.PackedChange.{PackedChange}
use Rattle.raft_packed_wire.specs.declared.record.PackedChange.TheVariants.{Vote, Append, Purge, Install}
use Rattle.raft_packed_wire.specs.declared.record.PackedRecord.{PackedRecord}
use Rattle.raft_packed_wire.specs.Records.{packed_on_disk, packed_replayed}

-- entries stand at their indexes, in their order
abbrev pub AreInOrder : ℕ → List (ℕ × Entry) → Type 0
AreInOrder from [] = Unit {0}
AreInOrder from (x ∷ log) = (from ≤ x.0) × ((x.1.log_id.index ≡ x.0) × AreInOrder (x.0 + 1) log)

module _ {S : Type 0} where
  -- that the log is purged, if it is
  abbrev pub purge_of : PackedStore S → List (PackedChange (Packed S))
  purge_of t = map (λ x. Purge x) (option_to_list t.front)

  -- beside the snapshot: the vote, the last purged id, if there is one, and the entries
  abbrev pub rest_changes : PackedStore S → List (PackedChange (Packed S))
  rest_changes t = Vote t.vote ∷ (purge_of t ++ Append (values_of t.log) ∷ [])

  -- the snapshot's record, which reserves no moment; and that of the rest, while moments are reserved up to this one
  abbrev pub snapshot_record : PackedStore S → PackedRecord (Packed S)
  snapshot_record t = record { moment = 0; began = Unchanged; changes = Install t.meta t.snap ∷ [] }

  abbrev pub rest_record : ℕ → PackedStore S → PackedRecord (Packed S)
  rest_record moment t = record { moment = moment; began = Unchanged; changes = rest_changes t }

  abbrev pub checkpoint : ℕ → PackedStore S → List (PackedRecord (Packed S))
  checkpoint moment t = snapshot_record t ∷ rest_record moment t ∷ []

  -- and as they stand in a log: they name no snapshot but by all of it
  abbrev pub named_snapshot : PackedStore S → NamedRecord S
  named_snapshot t = record { moment = 0; began = Unchanged; changes = Install t.meta t.snap ∷ [] }

  abbrev pub named_rest : ℕ → PackedStore S → NamedRecord S
  named_rest moment t = record { moment = moment; began = Unchanged; changes = rest_changes t }

  -- a store's entries stand at their indexes, behind the last purged one
  pub record IsKeyed (t : PackedStore S) : Type 0 where
    pub keys : t.log ≡ keyed entry_meaning (values_of t.log)
    pub run : IsRun (next t.front) (map entry_meaning.id_of (values_of t.log))

-- a checkpoint of a store, replayed on a new one record by record, makes a store that is the same on disk
abbrev pub Restores : {S : Type 0} → Application S → ℕ → PackedStore S → Type 0
Restores app moment t =
    packed_on_disk app (fold (λ u r. packed_replayed app r u) (packed_store app (no_store 0)) (checkpoint moment t)) ≡ packed_on_disk app t

abbrev pub CheckpointsRestore : Type 0 → Type 0
CheckpointsRestore S = (app : Application S) (moment : ℕ) (t : PackedStore S) → IsKeyed t → Restores app moment t
