-- The log of a server as bytes: batches of what its steps leave on disk, of one or more steps in their order.
use Rattle.std.specs.Prelude.{ℕ, ◌≡◌, List, fold, take}
use Rattle.std.specs.List.{flat_map}
use Rattle.raft_codec.specs.Codec.{Codec}
use Rattle.proof_packed.specs.Stores.{Application, Packed}
use Rattle.raft_packed_wire.specs.declared.record.PackedRecord.{PackedRecord}
use Rattle.raft_packed_wire.specs.declared.record.NamedRecord.{NamedRecord}
use Rattle.raft_packed_wire.specs.Named.{StandFor, whole_record}
use Rattle.raft_packed_wire.specs.Records.{named_logged, packed_on_disk}
use Rattle.raft_packed_wire.specs.Values.{kept}
use Rattle.proof_logs.specs.Batches.{AreBatchesOf, all_of}
use Rattle.proof_packed_servers.specs.Servers.{PackedDisk, PackedServer, PackedWaitingStep, packed_new_disk, packed_with_record, packed_with_records}

-- how a record stands in bytes, whose snapshots stand there by their names, or by their machine's form
abbrev pub logged_by : {S : Type 0} → Codec S → Codec (NamedRecord S)
logged_by c = named_logged (kept c)

module _ {S : Type 0} where
  -- what steps leave on disk, in their order; so what the k oldest waiting ones leave
  abbrev pub left_by : List (PackedWaitingStep S) → List (PackedRecord (Packed S))
  left_by ws = flat_map (λ w. w.disk_records) ws

  abbrev pub first_records : ℕ → List (PackedWaitingStep S) → List (PackedRecord (Packed S))
  first_records k ws = left_by (take k ws)

-- what records make of a new disk
abbrev pub restored : {S : Type 0} → Application S → List (PackedRecord (Packed S)) → PackedDisk S
restored app records = packed_with_records app records (packed_new_disk app)

module _ {S : Type 0} (app : Application S) where
  -- what one record of a log makes of a disk, and what several do, but for what no start reads
  abbrev pub kept_on_disk : PackedDisk S → PackedDisk S
  kept_on_disk d = record { store = packed_on_disk app d.store; moment = d.moment }

  abbrev pub with_named : NamedRecord S → PackedDisk S → PackedDisk S
  with_named r d = kept_on_disk (packed_with_record app (whole_record app d.store r) d)

  abbrev pub with_all_named : List (NamedRecord S) → PackedDisk S → PackedDisk S
  with_all_named records d = fold (λ disk r. with_named r disk) d records

module _ {S : Type 0} (app : Application S) (c : Codec S) where
  -- a server's disk is what these batches make: they stand for its records
  pub record HasLog (s : PackedServer S) (batches : List (List (NamedRecord S))) : Type 0 where
    pub writable : AreBatchesOf (logged_by c) batches
    pub records : List (PackedRecord (Packed S))
    pub stand : StandFor app (packed_new_disk app).store (all_of batches) records
    pub disk : s.disk ≡ restored app records
