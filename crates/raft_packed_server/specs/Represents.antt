-- A server stands for a server of the model (`proof_packed_servers`), and each call does there what the model says. So what is promised of
-- all servers of the model (`packs_clusters`, and through it `servers_follow`, `servers_agree`) holds of what leaves this one.
use Rattle.std.specs.Prelude.{ℕ, ◌≡◌, ◌≤◌, ◌⊎◌, List, [], ◌∷◌, Option, None, Some, IsSome, Result, IfOk, OnOk, length, take, drop}
use Rattle.std.specs.Option.{option_map}
use Rattle.raft_schedule.specs.declared.event.Outcome.{Outcome}
use Rattle.raft_codec.specs.Codec.{Codec}
use Rattle.proof_logs.specs.Batches.{IsBatchOf}
use Rattle.proof_packed.specs.Nodes.{PackedRecords}
use Rattle.proof_packed.specs.Stores.{Application}
use Rattle.raft_packed_wire.specs.raft_packed_node.Effects.{nothing_recorded}
use Rattle.raft_packed_wire.specs.Checkpoints.{AreInOrder}
use Rattle.raft_packed_wire.specs.Named.{StandFor}
use Rattle.raft_packed_wire.specs.Records.{packed_on_disk}
use Rattle.proof_packed_servers.specs.Servers.{PackedDisk, PackedServer, PackedStep, PackedWaitingStep, packed_flushed_first, packed_joined}
use Rattle.proof_packed_servers.specs.Servers.{packed_played_alone, packed_with_records, packed_with_step}
use Rattle.raft_packed_server.specs.declared.batch.Batch.{Batch}
use Rattle.raft_packed_server.specs.declared.batch.Written.{Written}
use Rattle.raft_packed_server.specs.declared.serving.Serving.{Serving}
use Rattle.raft_packed_server.specs.Logs.{first_records, left_by, logged_by}
use Rattle.raft_packed_server.specs.Views.{ServerView, bytes_beside, next_bytes, steps_released, with_batch}

module _ {S : Type 0} where
  -- it serves no more
  abbrev pub stopped : ServerView S → ServerView S
  stopped v = record v { serving = None }

  -- what waiting steps say, in their order
  abbrev pub said_by : List (PackedWaitingStep S) → PackedRecords S
  said_by [] = nothing_recorded
  said_by (w ∷ ws) = packed_joined w.outputs (said_by ws)

  -- the steps of the batch are the first of these
  pub record AreWritten (b : Batch S) (ws : List (PackedWaitingStep S)) : Type 0 where
    pub steps : b.steps ≤ length ws
    pub outputs : b.outputs ≡ said_by (take b.steps ws)

module _ {S : Type 0} (app : Application S) where
  -- the steps whose records were not handed out are these: the records stand for theirs, beside what is on disk before them
  pub record AreUnwritten (d : PackedDisk S) (v : Serving S) (ws : List (PackedWaitingStep S)) : Type 0 where
    pub steps : v.steps ≡ length ws
    pub records : StandFor app d.store v.records (left_by ws)
    pub outputs : v.outputs ≡ said_by ws

  abbrev pub AreWaiting : Option (Batch S) → PackedDisk S → Serving S → List (PackedWaitingStep S) → Type 0
  AreWaiting None d v ws = AreUnwritten d v ws
  AreWaiting (Some b) d v ws = AreWritten b ws × AreUnwritten (packed_with_records app (first_records b.steps ws) d) v (drop b.steps ws)

  -- The server has the model's node, and its waiting steps: first those of the batch that was handed out. Its records reserve the
  -- same moments. Once all that waits is on disk, the disk has what the node's store has, whose entries are in order. (What is on disk the
  -- server doesn't know.)
  pub record Stands (s : PackedServer S) (v : Serving S) : Type 0 where
    pub node : v.node ≡ s.node
    pub reserved : v.reserved ≡ s.reserved
    pub waiting : AreWaiting v.written s.disk v s.waiting
    pub same : packed_on_disk app (packed_with_records app (left_by s.waiting) s.disk).store ≡ packed_on_disk app s.node.store
    pub ordered : AreInOrder 0 s.node.store.log

  -- a server that has stopped stands for none
  abbrev pub StandsFor : PackedServer S → Option (Serving S) → Type 0
  StandsFor s None = ⊥
  StandsFor s (Some v) = Stands s v

  abbrev pub Represents : PackedServer S → ServerView S → Type 0
  Represents s v = StandsFor s v.serving

  -- What calls promise

  -- the model's server stays as it is
  abbrev pub Stays : {A E : Type 0} → ServerView S → Result A E → ServerView S → Type 0
  Stays old result new = OnOk result ((s : PackedServer S) → Represents s old → Represents s new)

  -- a step is taken at the model's server too
  abbrev pub Takes : {E : Type 0} → PackedStep S → ServerView S → Result Outcome E → ServerView S → Type 0
  Takes step old result new =
      IfOk result (λ outcome. (s : PackedServer S)
      → Represents s old → (outcome ≡ (packed_played_alone app old.given s.node step).0) × Represents (packed_with_step app old.given step s) new)

  -- The log is on disk up to a position: at the model's server the steps leave whose records stand up to there, and all others if no
  -- record is on its way then, or waits. What leaves is what those steps say.
  abbrev pub Flushes : {E : Type 0} → ℕ → ServerView S → Result (PackedRecords S) E → ServerView S → Type 0
  Flushes position old result new =
      let k = steps_released position old.serving in
      IfOk result (λ outputs. (s : PackedServer S) → Represents s old
      → (outputs ≡ said_by (take k s.waiting)) × Represents (packed_flushed_first app k s) new)

module _ {S : Type 0} (c : Codec S) where
  -- the records that wait are handed out as one frame: its bytes, which can be read back, where they end, and those for the log that is on its
  -- way
  pub record IsHandedOut (old : Serving S) (w : Written) : Type 0 where
    pub none_before : old.written ≡ None
    pub batch : IsBatchOf (logged_by c) old.records
    pub bytes : w.bytes.items ≡ next_bytes c old
    pub end : w.end ≡ (with_batch c old).tail.position
    pub next : option_map (λ b. b.items) w.next ≡ bytes_beside c old

  -- none is while another one is on its way, or if no record waits
  abbrev pub HandsOut : Option (Serving S) → Option Written → Option (Serving S) → Type 0
  HandsOut None w new = ⊥
  HandsOut (Some old) None new = (IsSome old.written ⊎ (old.records ≡ [])) × (new ≡ Some old)
  HandsOut (Some old) (Some w) new = IsHandedOut old w × (new ≡ Some (with_batch c old))
