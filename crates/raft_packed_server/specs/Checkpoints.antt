-- A server goes on with a new log, which begins with a checkpoint: so what its old log had can be dropped (Raft paper, section 7). The new log is
-- made beside the old one, which goes on meanwhile: what is handed out then goes behind both, until the new one takes the old one's place.
use Rattle.std.specs.Prelude.{ℕ, ◌≡◌, ◌⊎◌, List, [], ◌∷◌, ◌++◌, IsSome, Option, None, Some, map}
use Rattle.raft_frames.specs.declared.header.LogId.{LogId}
use Rattle.raft_frames.specs.declared.tail.Tail.{Tail}
use Rattle.raft_frames.specs.Format.{after, after_all, frame, header, start}
use Rattle.raft_frames.specs.Laws.{IsPayload}
use Rattle.raft_codec.specs.Codec.{Codec}
use Rattle.proof_logs.specs.Batches.{AreBatchesOf, bytes_of, file_of}
use Rattle.proof_packed.specs.Stores.{Application}
use Rattle.raft_packed_wire.specs.declared.record.NamedRecord.{NamedRecord}
use Rattle.raft_packed_wire.specs.Checkpoints.{named_rest, named_snapshot}
use Rattle.proof_packed_servers.specs.Checkpoints.{packed_checkpointed, packed_left_by}
use Rattle.proof_packed_servers.specs.Servers.{PackedServer}
use Rattle.raft_packed_server.specs.declared.batch.NewLog.{NewLog}
use Rattle.raft_packed_server.specs.declared.serving.Serving.{Serving}
use Rattle.raft_packed_server.specs.Laws.{IsAtEnd, IsAtNextEnd}
use Rattle.raft_packed_server.specs.Logs.{HasLog, logged_by}
use Rattle.raft_packed_server.specs.Represents.{Stands}

-- a checkpoint of the node's store, while as many moments are reserved: the new log's first batches, one with its snapshot, and one with all else
abbrev pub first_batches : {S : Type 0} → Serving S → List (List (NamedRecord S))
first_batches v = (named_snapshot v.node.store ∷ []) ∷ (named_rest v.reserved v.node.store ∷ []) ∷ []

-- the bytes of a new log
abbrev pub new_log_bytes : NewLog → List ℕ
new_log_bytes w = w.front.items ++ (w.snapshot.items ++ w.rest.items)

-- the first frame of a new log, with its header: up to the payload, or to a place in that, and what is left; and where the next frame goes
pub record IsFirstFrame (log : LogId) (payload front left : List ℕ) (tail : Tail) : Type 0 where
  pub fits : IsPayload payload
  pub bytes : front ++ left ≡ header log ++ frame (start log) payload
  pub place : tail ≡ after (start log) payload

-- no frame is on its way, and no record waits
abbrev pub IsClear : {S : Type 0} → Serving S → Type 0
IsClear v = (v.written ≡ None) × (v.records ≡ [])

module _ {S : Type 0} (c : Codec S) where
  -- the next frame goes behind it in the new log, which is on its way from then on; where the old one ends stays as it is
  abbrev pub behind_first : LogId → Serving S → Tail
  behind_first log v = after_all (start log) (map (bytes_of (logged_by c)) (first_batches v))

  abbrev pub with_next_log : LogId → Serving S → Serving S
  with_next_log log v = record v { next = Some (behind_first log v) }

  -- a new log is handed out whole: its bytes, from the first on, and where they end
  pub record IsNewLog (log : LogId) (old : Serving S) (w : NewLog) : Type 0 where
    pub clear : IsClear old
    pub batches : AreBatchesOf (logged_by c) (first_batches old)
    pub bytes : new_log_bytes w ≡ file_of (logged_by c) log (first_batches old)
    pub end : w.end ≡ (behind_first log old).position

  -- none is while a frame is on its way, or a record waits
  abbrev pub BeginsLog : LogId → Option (Serving S) → Option NewLog → Option (Serving S) → Type 0
  BeginsLog log None w new = ⊥
  BeginsLog log (Some old) None new = (IsClear old → ⊥) × (new ≡ Some old)
  BeginsLog log (Some old) (Some w) new = IsNewLog log old w × (new ≡ Some (with_next_log log old))

module _ {S : Type 0} where
  -- no new log is on its way any more
  abbrev pub without_next_log : Serving S → Serving S
  without_next_log v = record v { next = None }

  -- the new log has the old one's place: the next frame goes there, and nowhere else
  abbrev pub with_log_at : Tail → Serving S → Serving S
  with_log_at place v = record v { header = None; tail = place; next = None }

  -- It takes that with all that was handed out, and its end is answered.
  pub record HasTakenOver (old : Serving S) (end : ℕ) (new : Option (Serving S)) : Type 0 where
    pub idle : old.written ≡ None
    pub place : Tail
    pub next : old.next ≡ Some place
    pub answers : end ≡ place.position
    pub rest : new ≡ Some (with_log_at place old)

  -- none does while a frame is on its way, if no new log is, or once the server has stopped
  abbrev pub TakesOver : Option (Serving S) → Option ℕ → Option (Serving S) → Type 0
  TakesOver None None new = new ≡ None
  TakesOver None (Some end) new = ⊥
  TakesOver (Some old) None new = (IsSome old.written ⊎ (old.next ≡ None)) × (new ≡ Some old)
  TakesOver (Some old) (Some end) new = HasTakenOver old end new

module _ {S : Type 0} (app : Application S) (c : Codec S) where
  -- The new log makes the disk of a model's server for which the server stands, too, beside the one that has the old log. What waits there leaves
  -- nothing on disk, so it goes on as if its log were the old one (`servers_go_on_from_checkpoints`).
  pub record GoesOnBesideNewLog (log : LogId) (s : PackedServer S) (v : Serving S) (w : NewLog) : Type 0 where
    pub waits : packed_left_by s.waiting ≡ []
    pub old : Stands app s (with_next_log c log v)
    pub stands : Stands app (packed_checkpointed app s) (with_next_log c log v)
    pub has : HasLog app c (packed_checkpointed app s) (first_batches v)
    pub ends : IsAtNextEnd c log (first_batches v) (new_log_bytes w) (with_next_log c log v)

  abbrev pub NewLogsGoOn : Type 0
  NewLogsGoOn =
      (log : LogId) (s : PackedServer S) (v : Serving S) (w : NewLog) → Stands app s v → IsNewLog c log v w → GoesOnBesideNewLog log s v w

  -- A log that takes the old one's place: the server stands for each model's server that it stood for, so for that which has this log, and goes
  -- on at its end.
  abbrev pub NewLogsTakeOver : Type 0
  NewLogsTakeOver =
      (log : LogId) (s : PackedServer S) (batches : List (List (NamedRecord S))) (file : List ℕ) (v : Serving S) (end : ℕ) (new : Serving S)
      → Stands app s v → IsAtNextEnd c log batches file v → HasTakenOver v end (Some new)
      → Stands app s new × IsAtEnd c log batches file new

  -- one that is given up leaves the server as it is
  abbrev pub NewLogsAreGivenUp : Type 0
  NewLogsAreGivenUp = (s : PackedServer S) (v : Serving S) → Stands app s v → Stands app s (without_next_log v)
