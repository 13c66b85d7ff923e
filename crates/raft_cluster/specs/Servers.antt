-- When a server and its disk stand for a server of the model, packed (`proof_packed_servers`).
use Rattle.std.specs.Prelude.{ℕ, ◌≡◌, ◌≤◌, ◌⊎◌, List, [], ◌++◌, Option, None, Some, IfSome, length}
use Rattle.std.specs.Option.{option_map}
use Rattle.raft_frames.specs.declared.header.LogId.{LogId}
use Rattle.raft_node.specs.declared.given.Given.{Given}
use Rattle.raft_codec.specs.Codec.{Codec}
use Rattle.proof_requests.specs.proof_logs.Batches.{file_of, one_batch}
use Rattle.proof_requests.specs.proof_logs.Files.{log_of}
use Rattle.proof_packed.specs.Stores.{Application}
use Rattle.raft_packed_wire.specs.declared.record.NamedRecord.{NamedRecord}
use Rattle.proof_requests.specs.proof_packed_servers.Checkpoints.{AreSameDisks}
use Rattle.proof_requests.specs.proof_packed_servers.Servers.{PackedDisk, PackedServer}
use Rattle.proof_requests.specs.raft_packed_server.declared.batch.Batch.{Batch}
use Rattle.proof_requests.specs.raft_packed_server.declared.serving.Serving.{Serving}
use Rattle.proof_requests.specs.raft_packed_server.Laws.{IsAtEnd, IsAtNextEnd, IsCut}
use Rattle.proof_requests.specs.raft_packed_server.Logs.{HasLog, logged_by}
use Rattle.proof_requests.specs.raft_packed_server.Represents.{Stands}
use Rattle.proof_requests.specs.raft_packed_server.Views.{ServerView}
use Rattle.proof_requests.specs.raft_core.Views.{CoreView}
use Rattle.raft_cluster.specs.declared.machine.Handed.{Handed}
use Rattle.raft_cluster.specs.declared.machine.Machine.{Machine}
use Rattle.raft_cluster.specs.Disks.{bytes_of, flushed_beside}

-- the records of a log, as it names them, batch by batch
abbrev pub Batches : Type 0 → Type 0
Batches S = List (List (NamedRecord S))

module _ {S : Type 0} where
  -- whose log is on a machine's disk
  abbrev pub log_on : Machine S → LogId
  log_on m = log_of 1 m.id

  -- the server that runs at a machine
  abbrev pub server_in : Option (CoreView S) → Option (ServerView S)
  server_in core = option_map (λ c. c.server) core

  -- the batch that is on its way, if one is
  abbrev pub batch_on_way : Option Handed → List (NamedRecord S) → Batches S
  batch_on_way None next = []
  batch_on_way (Some w) next = one_batch next

module _ {S : Type 0} (codec : Codec S) where
  -- while a frame is on its way, the server goes on behind it
  pub record GoesOnBehind (log : LogId) (batches : Batches S) (next : List (NamedRecord S)) (k : ℕ) (disk : List ℕ) (w : Handed) (v : Serving S)
      : Type 0 where
    pub batch : Batch S
    pub is : v.written ≡ Some batch
    pub steps : batch.steps ≡ k
    pub end : batch.end ≡ w.end
    pub at_end : IsAtEnd codec log (batches ++ one_batch next) (disk ++ w.bytes) v

  -- else it goes on behind what is on disk
  pub record GoesOnIdle (log : LogId) (batches : Batches S) (disk : List ℕ) (v : Serving S) : Type 0 where
    pub idle : v.written ≡ None
    pub at_end : IsAtEnd codec log batches disk v

  abbrev pub GoesOn : LogId → Batches S → List (NamedRecord S) → ℕ → List ℕ → Option Handed → Serving S → Type 0
  GoesOn log batches next k disk None v = GoesOnIdle log batches disk v
  GoesOn log batches next k disk (Some w) v = GoesOnBehind log batches next k disk w v

module _ {S : Type 0} (app : Application S) (codec : Codec S) where
  -- while it serves, it stands for the model's server
  abbrev pub Serves : LogId → PackedServer S → Batches S → List (NamedRecord S) → ℕ → List ℕ → Option Handed → Option (Serving S) → Type 0
  Serves log s batches next k disk written None = Unit {0}
  Serves log s batches next k disk written (Some v) = Stands app s v × GoesOn codec log batches next k disk written v

  -- a machine whose server isn't open writes nothing
  abbrev pub Runs : Given → LogId → PackedServer S → Batches S → List (NamedRecord S) → ℕ → List ℕ → Option Handed → Option (ServerView S) → Type 0
  Runs given log s batches next k disk written None = written ≡ None
  Runs given log s batches next k disk written (Some server) = (server.given ≡ given) × Serves log s batches next k disk written server.serving

  -- What is on disk, with what is on its way there, is the front of the log's file: of its batches, and of the one that is being
  -- written, whose records stand for what the k oldest waiting steps leave. The others are on disk, and the model's disk is what they make.
  pub record IsStored (log : LogId) (s : PackedServer S) (batches : Batches S) (next : List (NamedRecord S)) (k : ℕ) (disk way : List ℕ)
      : Type 0 where
    pub within : k ≤ length s.waiting
    pub cut : IsCut app codec log k s batches next (length disk)
    pub rest : List ℕ
    pub front : file_of (logged_by codec) log (batches ++ one_batch next) ≡ (disk ++ way) ++ rest

  -- A new log is on its way: its batches make a disk that is the same. Its file, with what is on its way there, has these and those that are,
  -- and the server goes on behind them, too.
  pub record HasNext (log : LogId) (s : PackedServer S) (more : Batches S) (file : List ℕ) (v : Serving S) : Type 0 where
    pub disk : PackedDisk S
    pub same : AreSameDisks app s.disk disk
    pub batches : Batches S
    pub has : HasLog app codec (record s { disk = disk }) batches
    pub at_end : IsAtNextEnd codec log (batches ++ more) file v

  -- while it serves, the file beside its disk has the new log, if one is on its way
  abbrev pub ServesNext : LogId → PackedServer S → Batches S → List ℕ → Option (Serving S) → Type 0
  ServesNext log s more file None = Unit {0}
  ServesNext log s more file (Some v) = (v.next ≡ None) ⊎ HasNext log s more file v

  -- A machine has this server: what is on disk makes the server's disk, and what runs stands for it. (While the machine's server isn't
  -- open or has stopped, this one has not crashed yet: the model crashes and starts it in one.)
  pub record HasServer (given : Given) (s : PackedServer S) (m : Machine S) : Type 0 where
    pub batches : Batches S
    pub next : List (NamedRecord S)
    pub k : ℕ
    pub stored : IsStored (log_on m) s batches next k m.disk.items (bytes_of m.written)
    pub runs : Runs given (log_on m) s batches next k m.disk.items m.written (server_in m.core)
    pub named : IfSome m.core (λ c. c.id ≡ m.id)
    pub beside : IfSome m.core (λ c. ServesNext (log_on m) s (batch_on_way m.written next) (flushed_beside m) c.server.serving)

  -- A machine stands for a server of the model: it has that server, but for what no start reads on disk. (A new log has a checkpoint in
  -- place of what came before.)
  pub record IsServer (given : Given) (s : PackedServer S) (m : Machine S) : Type 0 where
    pub disk : PackedDisk S
    pub same : AreSameDisks app s.disk disk
    pub has : HasServer given (record s { disk = disk }) m
