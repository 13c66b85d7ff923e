-- The log of a server as bytes: batches of what its steps leave on disk, of one or more steps in their order.
use Rattle.std.specs.Prelude.{ℕ, ◌≡◌, List, Result, take}
use Rattle.std.specs.List.{flat_map}
use Rattle.raft_frames.specs.declared.header.LogId.{LogId}
use Rattle.raft_frames.specs.Reading.{Contents}
use Rattle.raft_codec.specs.declared.error.DecodeError.{DecodeError}
use Rattle.raft_wire.specs.declared.record.Record.{Record}
use Rattle.raft_wire.specs.Records.{logged}
use Rattle.proof_servers.specs.Servers.{Disk, Server, WaitingStep, new_disk, with_records}
use Rattle.proof_logs.specs.Batches.{AreBatchesOf, HoldsOf, IsBatchOf, IsFileOf, all_of, bytes_of, file_of, one_batch, read_at, read_in}

-- the payload of a batch's frame
abbrev pub batch_bytes : List Record → List ℕ
batch_bytes records = bytes_of logged records

-- a batch that can be written, and batches that can
abbrev pub IsBatch : List Record → Type 0
IsBatch records = IsBatchOf logged records

abbrev pub AreBatches : List (List Record) → Type 0
AreBatches batches = AreBatchesOf logged batches

-- the file to which these batches were written, and nothing else has happened
abbrev pub log_file : LogId → List (List Record) → List ℕ
log_file log batches = file_of logged log batches

-- the records of batches, in their order
abbrev pub records_of : List (List Record) → List Record
records_of batches = all_of batches

-- the records that stand in bytes, at most n; and those of frames, by their payloads
abbrev pub records_at : ℕ → List ℕ → Result (List Record) DecodeError
records_at n bytes = read_at logged n bytes

abbrev pub records_in : List (List ℕ) → Result (List Record) DecodeError
records_in payloads = read_in logged payloads

-- what is read of a file's bytes: the frames that stand there whole, and their records
abbrev pub Holds : LogId → List ℕ → Contents → List Record → Type 0
Holds log bytes contents records = HoldsOf logged log bytes contents records

-- what records make of a new disk
abbrev pub restored : List Record → Disk
restored records = with_records records new_disk

-- a server's disk is what these batches make
pub record HasLog (s : Server) (batches : List (List Record)) : Type 0 where
  pub writable : AreBatches batches
  pub disk : s.disk ≡ restored (records_of batches)

-- what steps leave on disk, in their order; so what the k oldest waiting ones leave, and the batch that it is, if it is any
abbrev pub left_by : List WaitingStep → List Record
left_by ws = flat_map (λ w. w.disk_records) ws

abbrev pub first_records : ℕ → List WaitingStep → List Record
first_records k ws = left_by (take k ws)

abbrev pub batch_of : List Record → List (List Record)
batch_of records = one_batch records

abbrev pub first_batch : ℕ → List WaitingStep → List (List Record)
first_batch k ws = batch_of (first_records k ws)

-- a file has these batches: the header is written with the first of them
abbrev pub IsFile : LogId → List (List Record) → List ℕ → Type 0
IsFile log batches bytes = IsFileOf logged log batches bytes
