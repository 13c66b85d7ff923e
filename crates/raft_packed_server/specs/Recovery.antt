-- What a server is that is opened on a log.
use Rattle.std.specs.Prelude.{ℕ, ◌≡◌, List, [], Option, None, Some, Result, Ok, Err, if◌then◌else◌, nat_eq}
use Rattle.raft_frames.specs.declared.header.LogId.{LogId}
use Rattle.raft_frames.specs.declared.tail.Tail.{Tail}
use Rattle.raft_frames.specs.Reading.{Contents, Gives, read}
use Rattle.raft_node.specs.declared.given.Given.{Given}
use Rattle.raft_codec.specs.declared.error.DecodeError.{DecodeError}
use Rattle.raft_codec.specs.Codec.{Codec, Refuses}
use Rattle.proof_logs.specs.Batches.{HoldsOf, read_in}
use Rattle.proof_packed.specs.Stores.{Application, Packed}
use Rattle.raft_packed_wire.specs.raft_packed_node.Effects.{nothing_recorded}
use Rattle.raft_packed_wire.specs.declared.record.NamedRecord.{NamedRecord}
use Rattle.raft_packed_wire.specs.declared.record.PackedRecord.{PackedRecord}
use Rattle.raft_packed_wire.specs.Named.{StandFor}
use Rattle.proof_packed_servers.specs.Servers.{PackedDisk, packed_new_disk, packed_started, packed_stopped_node}
use Rattle.raft_packed_server.specs.declared.error.OpenError.{OpenError}
use Rattle.raft_packed_server.specs.declared.error.OpenError.TheVariants as errors
use Rattle.raft_packed_server.specs.declared.recovery.Recovery.{Recovery}
use Rattle.raft_packed_server.specs.declared.serving.Serving.{Serving}
use Rattle.raft_packed_server.specs.declared.server.Opened.{Opened}
use Rattle.raft_packed_server.specs.Logs.{kept_on_disk, logged_by, restored, with_all_named}
use Rattle.raft_packed_server.specs.Represents.{Represents}

-- the next frame goes there, behind the header if the log has none, and no other is on its way, nor a new log
pub record GoesOnAt {S : Type 0} (v : Serving S) (missing : Option LogId) (place : Tail) : Type 0 where
  pub header : v.header ≡ missing
  pub tail : v.tail ≡ place
  pub idle : v.written ≡ None
  pub alone : v.next ≡ None

abbrev pub GoesOn : {S : Type 0} → Option (Serving S) → Option LogId → Tail → Type 0
GoesOn None header tail = ⊥
GoesOn (Some v) header tail = GoesOnAt v header tail

module _ {S : Type 0} (app : Application S) (c : Codec S) where
  -- a server that was opened stands for the model's server that starts on the disk of the log's records. It goes on where the log
  -- ends
  pub record OpensOn (given : Given) (id : LogId) (log : List ℕ) (at : ℕ) (o : Opened S) : Type 0 where
    pub contents : Contents
    pub named : List (NamedRecord S)
    pub holds : HoldsOf (logged_by c) id log contents named
    pub records : List (PackedRecord (Packed S))
    pub stand : StandFor app (packed_new_disk app).store named records
    pub starts : Represents app (packed_started app given id.node at (restored app records)) o.server
    pub end : o.end ≡ contents.end
    pub tail : GoesOn o.server.serving (if nat_eq o.end 0 then Some id else None) contents.tail

  -- what a log gives back: what its records make, but for what no start reads, and where it goes on
  pub record IsRecovery (id : LogId) (log : List ℕ) (r : Recovery S) : Type 0 where
    pub contents : Contents
    pub named : List (NamedRecord S)
    pub holds : HoldsOf (logged_by c) id log contents named
    pub disk : kept_on_disk app r.disk ≡ with_all_named app named (packed_new_disk app)
    pub end : r.end ≡ contents.end
    pub tail : r.tail ≡ contents.tail

  -- Refusals: what is wrong with the log's frames, or with the first that holds something else than records; or their records can't be
  -- replayed, or the node can't start on them
  abbrev pub IsRefused : LogId → List ℕ → OpenError → Type 0
  IsRefused id log (errors.Log e) = Gives (Err e) (read id log)
  IsRefused id log (errors.Record e) =
      (contents : Contents) × (read id log ≡ Ok contents) × Refuses (read_in (logged_by c) contents.payloads) e
  IsRefused id log (errors.Replay e) = (contents : Contents) × (read id log ≡ Ok contents)
  IsRefused id log (errors.Start e) =
      (contents : Contents) × (named : List (NamedRecord S)) × HoldsOf (logged_by c) id log contents named

  abbrev pub RecoversLog : LogId → List ℕ → Result (Recovery S) OpenError → Type 0
  RecoversLog id log (Ok r) = IsRecovery id log r
  RecoversLog id log (Err e) = IsRefused id log e

  abbrev pub Opens : Given → LogId → List ℕ → ℕ → Result (Opened S) OpenError → Type 0
  Opens given id log at (Ok o) = OpensOn given id log at o
  Opens given id log at (Err e) = IsRefused id log e

-- a server before its start, on what its log gave back
abbrev pub unstarted : {S : Type 0} → LogId → Recovery S → Serving S
unstarted id r =
    record {
      node = packed_stopped_node id.node r.disk;
      reserved = r.disk.moment;
      written = None;
      steps = 0;
      records = [];
      outputs = nothing_recorded;
      header = (if nat_eq r.end 0 then Some id else None);
      tail = r.tail;
      next = None;
    }

-- Recovery

module _ {S : Type 0} (app : Application S) where
  -- what records, or what are to be records, made of what was recovered before
  abbrev pub Recovers : {A : Type 0} → Result (List (NamedRecord S)) DecodeError → PackedDisk S → Result A OpenError → PackedDisk S → Type 0
  Recovers named old (Ok _) new =
      (rs : List (NamedRecord S)) × (named ≡ Ok rs) × (kept_on_disk app new ≡ with_all_named app rs (kept_on_disk app old))
  Recovers named old (Err (errors.Record e)) new = Refuses named e
  Recovers named old (Err (errors.Replay e)) new = Unit {0}
  Recovers named old (Err _) new = ⊥
