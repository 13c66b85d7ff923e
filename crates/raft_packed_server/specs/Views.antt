-- What a server has, and what each call makes of it.
use Rattle.std.specs.Prelude.{ℕ, ◌≡◌, ◌+◌, Bool, true, false, List, [], ◌++◌, Option, None, Some, nat_le, if◌then◌else◌}
use Rattle.std.specs.Option.{option_map}
use Rattle.raft_frames.specs.declared.header.LogId.{LogId}
use Rattle.raft_frames.specs.Format.{after, frame, header}
use Rattle.raft_schedule.specs.declared.event.Outcome.{Outcome}
use Rattle.raft_node.specs.declared.given.Given.{Given}
use Rattle.raft_calls.specs.Held.{IsRestingWhereRunning}
use Rattle.raft_codec.specs.Codec.{Codec}
use Rattle.proof_packed.specs.Nodes.{PackedRecords}
use Rattle.proof_packed.specs.Stores.{Application, Packed}
use Rattle.raft_packed_wire.specs.raft_packed_node.declared.message.PackedAct.{PackedAct}
use Rattle.raft_packed_wire.specs.raft_packed_node.Effects.{brought_by, nothing_recorded}
use Rattle.raft_packed_wire.specs.declared.record.PackedChange.{PackedChange}
use Rattle.raft_packed_wire.specs.declared.record.NamedRecord.{NamedRecord}
use Rattle.raft_packed_wire.specs.Named.{StandFor}
use Rattle.proof_logs.specs.Batches.{bytes_of}
use Rattle.proof_packed_servers.specs.Servers.{PackedStep, packed_disk_records, packed_joined, packed_node_after, packed_outputs_of}
use Rattle.proof_packed_servers.specs.Servers.{packed_played_alone, packed_reserved_after}
use Rattle.raft_packed_server.specs.declared.batch.Batch.{Batch}
use Rattle.raft_packed_server.specs.declared.serving.Serving.{Serving}
use Rattle.raft_packed_server.specs.Logs.{logged_by}

-- a server: what it was given, and what it has while it serves
pub record ServerView (S : Type 0) : Type 0 where
  pub given : Given
  pub serving : Option (Serving S)

-- what the commands of a step change on disk, and the snapshot that the step's message brought
pub record ChangesView (S : Type 0) : Type 0 where
  pub brought : Packed S
  pub changes : List (PackedChange (Packed S))

-- its node is at rest
abbrev pub RestsWhereServing : {S : Type 0} → Option (Serving S) → Type 0
RestsWhereServing None = Unit {0}
RestsWhereServing (Some v) = IsRestingWhereRunning v.node.engine

module _ {S : Type 0} (app : Application S) where
  -- Steps

  -- an act at a moment: if it brings no snapshot, it brings that of no entries
  abbrev pub step_of : PackedAct S → ℕ → PackedStep S
  step_of a at = record { act = a.act; brought = brought_by app a.snapshot; at = at }

  -- a step is taken: its record, if it leaves one, as the log names it, and what it says wait behind those of the steps before it
  abbrev pub with_taken : Given → PackedStep S → List (NamedRecord S) → Serving S → Serving S
  with_taken given s named v = record v {
    node = packed_node_after app given v.node s;
    reserved = packed_reserved_after app given v.reserved v.node s;
    steps = v.steps + 1;
    records = v.records ++ named;
    outputs = packed_joined v.outputs (packed_outputs_of app given v.node s);
  }

  -- and its outcome
  abbrev pub step_taken : Given → PackedStep S → List (NamedRecord S) → Serving S → Outcome × Serving S
  step_taken given s named v = ((packed_played_alone app given v.node s).0, with_taken given s named v)

  -- records of the log stand for what a step leaves, beside the node's store
  abbrev pub StandForStep : Given → PackedStep S → Serving S → List (NamedRecord S) → Type 0
  StandForStep given s v named = StandFor app v.node.store named (packed_disk_records app given v.reserved v.node s)

  pub record IsTaken (given : Given) (s : PackedStep S) (old : Serving S) (outcome : Outcome) (new : Serving S) : Type 0 where
    pub named : List (NamedRecord S)
    pub stand : StandForStep given s old named
    pub is : ◌≡◌ {A = Outcome × Serving S} (outcome, new) (step_taken given s named old)

  -- of a server that serves
  abbrev pub IsWithTaken : Given → PackedStep S → Option (Serving S) → Option (Serving S) → Type 0
  IsWithTaken given s None new = new ≡ None
  IsWithTaken given s (Some old) new = (named : List (NamedRecord S)) × (StandForStep given s old named × (new ≡ Some (with_taken given s named old)))

-- Bytes for the log's end

-- the header, if it isn't in the log yet
abbrev pub header_of : Option LogId → List ℕ
header_of None = []
header_of (Some id) = header id

module _ {S : Type 0} (c : Codec S) where
  -- the bytes of the records that wait, behind the header if it isn't in the log yet
  abbrev pub next_bytes : Serving S → List ℕ
  next_bytes v = header_of v.header ++ frame v.tail (bytes_of (logged_by c) v.records)

  -- and for the log that is on its way, if one is
  abbrev pub bytes_beside : Serving S → Option (List ℕ)
  bytes_beside v = option_map (λ t. frame t (bytes_of (logged_by c) v.records)) v.next

  -- they were handed out, for both logs
  abbrev pub with_batch : Serving S → Serving S
  with_batch v =
      let tail = after v.tail (bytes_of (logged_by c) v.records) in
      record v {
        written = Some (record { end = tail.position; steps = v.steps; outputs = v.outputs });
        steps = 0;
        records = [];
        outputs = nothing_recorded;
        header = None;
        tail = tail;
        next = option_map (λ t. after t (bytes_of (logged_by c) v.records)) v.next;
      }

module _ {S : Type 0} where
  -- The log is on disk up to a position

  -- the batch that was handed out is
  abbrev pub is_flushed : ℕ → Batch S → Bool
  is_flushed position b = nat_le b.end position

  -- how many steps its are, and what they say, which leaves then; and the server without it
  abbrev pub steps_flushed : ℕ → Option (Batch S) → ℕ
  steps_flushed position None = 0
  steps_flushed position (Some b) = if is_flushed position b then b.steps else 0

  abbrev pub batch_released : ℕ → Serving S → PackedRecords S × Serving S
  batch_released position v =
      elim v.written [
        | None ↦ (nothing_recorded, v)
        | Some b ↦ if is_flushed position b then (b.outputs, record v { written = None }) else (nothing_recorded, v)
      ]

  -- no record is on its way to the disk, and none waits
  abbrev pub is_clear : Option (Batch S) → List (NamedRecord S) → Bool
  is_clear None [] = true
  is_clear _ _ = false

  -- then the other steps leave too: how many, and what they say; and the server without them
  abbrev pub steps_cleared : Serving S → ℕ
  steps_cleared v = if is_clear v.written v.records then v.steps else 0

  abbrev pub rest_released : Serving S → PackedRecords S × Serving S
  rest_released v =
      if is_clear v.written v.records then (v.outputs, record v { steps = 0; outputs = nothing_recorded }) else (nothing_recorded, v)

  -- the steps of the batch, and then the others: how many leave, and what they say; and the server without them
  abbrev pub steps_released : ℕ → Option (Serving S) → ℕ
  steps_released position None = 0
  steps_released position (Some v) = steps_flushed position v.written + steps_cleared (batch_released position v).1

  abbrev pub released : ℕ → Serving S → PackedRecords S × Serving S
  released position v =
      let batch = batch_released position v in
      let rest = rest_released batch.1 in
      (packed_joined batch.0 rest.0, rest.1)
