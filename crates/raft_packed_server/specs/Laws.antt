-- What a server hands out goes on with its log, and what a crash leaves of that is opened.
use Rattle.std.specs.Prelude.{ℕ, ◌≡◌, ◌⊎◌, List, [], ◌∷◌, ◌++◌, None, Some, map, replicate, take}
use Rattle.raft_frames.specs.declared.header.LogId.{LogId}
use Rattle.raft_frames.specs.Format.{after_all, start}
use Rattle.raft_node.specs.declared.given.Given.{Given}
use Rattle.raft_codec.specs.Codec.{Codec}
use Rattle.proof_logs.specs.BatchLaws.{IsCutOf, ReadsByChanceOf, cut_of}
use Rattle.proof_logs.specs.Batches.{bytes_of, file_of}
use Rattle.proof_packed.specs.Stores.{Application, Packed}
use Rattle.raft_packed_wire.specs.declared.record.NamedRecord.{NamedRecord}
use Rattle.raft_packed_wire.specs.Named.{StandFor}
use Rattle.proof_packed_servers.specs.Servers.{PackedServer, packed_crashed, packed_flushed_first}
use Rattle.raft_packed_server.specs.declared.batch.Written.{Written}
use Rattle.raft_packed_server.specs.declared.server.Opened.{Opened}
use Rattle.raft_packed_server.specs.declared.serving.Serving.{Serving}
use Rattle.raft_packed_server.specs.Logs.{HasLog, first_records, logged_by}
use Rattle.raft_packed_server.specs.Recovery.{OpensOn}
use Rattle.raft_packed_server.specs.Represents.{IsHandedOut, Represents, Stands}
use Rattle.raft_packed_server.specs.Views.{with_batch}

module _ {S : Type 0} (c : Codec S) where
  -- A server goes on at the end of a file with these batches: the file is empty, and the header is still to be written; or it has the
  -- header and the batches. The next frame goes behind them.
  pub record IsAtEnd (log : LogId) (batches : List (List (NamedRecord S))) (bytes : List ℕ) (v : Serving S) : Type 0 where
    pub file : ((bytes ≡ []) × (batches ≡ []) × (v.header ≡ Some log)) ⊎ ((bytes ≡ file_of (logged_by c) log batches) × (v.header ≡ None))
    pub tail : v.tail ≡ after_all (start log) (map (bytes_of (logged_by c)) batches)

  -- a new log is on its way whose file, once all that was handed out is there, has these batches; the next frame goes behind them
  pub record IsAtNextEnd (log : LogId) (batches : List (List (NamedRecord S))) (bytes : List ℕ) (v : Serving S) : Type 0 where
    pub file : bytes ≡ file_of (logged_by c) log batches
    pub next : v.next ≡ Some (after_all (start log) (map (bytes_of (logged_by c)) batches))

-- what was handed out for the new log
abbrev pub for_next : Written → List ℕ
for_next w = elim w.next [ None ↦ [] | Some bytes ↦ bytes.items ]

module _ {S : Type 0} (app : Application S) (c : Codec S) where
  -- Behind the file of a server of the model, what is handed out makes the file of that server once what these steps leave is on disk.
  abbrev pub WritesLog : Type 0
  WritesLog =
      (log : LogId) (s : PackedServer S) (batches : List (List (NamedRecord S))) (file : List ℕ) (v : Serving S) (w : Written)
      → HasLog app c s batches → Stands app s v → IsAtEnd c log batches file v → IsHandedOut c v w
      → HasLog app c (packed_flushed_first app v.steps s) (batches ++ v.records ∷ [])
      × IsAtEnd c log (batches ++ v.records ∷ []) (file ++ w.bytes.items) (with_batch c v)

  -- and so behind the file of the new log, for a model's server that has it
  abbrev pub WritesNextLog : Type 0
  WritesNextLog =
      (log : LogId) (s : PackedServer S) (batches : List (List (NamedRecord S))) (file : List ℕ) (v : Serving S) (w : Written)
      → HasLog app c s batches → Stands app s v → IsAtNextEnd c log batches file v → IsHandedOut c v w
      → HasLog app c (packed_flushed_first app v.steps s) (batches ++ v.records ∷ [])
      × IsAtNextEnd c log (batches ++ v.records ∷ []) (file ++ for_next w) (with_batch c v)

  -- A server that was opened on the bytes which a crash left of a server's file, while what its k oldest waiting steps leave came on disk:
  -- it stands for the model's server after a crash that left all of those records, or none. It goes on at the end of what is kept of the
  -- file.
  pub record OpensCrashed (given : Given) (log : LogId) (k at : ℕ) (s : PackedServer S) (bytes : List ℕ) (o : Opened S) : Type 0 where
    pub survive : ℕ
    pub whole : (survive ≡ 0) ⊎ (survive ≡ k)
    pub batches : List (List (NamedRecord S))
    pub has : HasLog app c (packed_crashed app given log.node survive at s) batches
    pub stands : Represents app (packed_crashed app given log.node survive at s) o.server
    pub goes_on : (v : Serving S) → o.server.serving ≡ Some v → IsAtEnd c log batches (take o.end bytes) v
    pub idle : (v : Serving S) → o.server.serving ≡ Some v → v.written ≡ None

  -- A server, the batches that its file has, the records that are written behind them, and the number of bytes that a crash leaves: what is on disk
  -- of the file is among them, and the frame of those records may be, which stand for what the k oldest waiting steps leave.
  pub record IsCut (log : LogId) (k : ℕ) (s : PackedServer S) (batches : List (List (NamedRecord S))) (next : List (NamedRecord S)) (n : ℕ)
      : Type 0 where
    pub has : HasLog app c s batches
    pub stand : StandFor app s.disk.store next (first_records k s.waiting)
    pub file : IsCutOf (logged_by c) log batches next n

  -- so many bytes of the file with the batch that is being written
  abbrev pub cut_file : LogId → List (List (NamedRecord S)) → List (NamedRecord S) → ℕ → List ℕ
  cut_file log batches next n = cut_of (logged_by c) log batches next n

  -- cut at any byte that isn't on disk yet
  abbrev pub OpensAfterCuts : Type 0
  OpensAfterCuts =
      (given : Given) (log : LogId) (k at : ℕ) (s : PackedServer S) (batches : List (List (NamedRecord S))) (next : List (NamedRecord S)) (n : ℕ) (o : Opened S)
      → IsCut log k s batches next n
      → let bytes = cut_file log batches next n in
      OpensOn app c given log bytes at o → OpensCrashed given log k at s bytes o

  -- and filled with zeros behind the cut, unless those are read as frames by chance
  abbrev pub OpensAfterZeros : Type 0
  OpensAfterZeros =
      (given : Given) (log : LogId) (k at : ℕ) (s : PackedServer S) (batches : List (List (NamedRecord S))) (next : List (NamedRecord S)) (n zeros : ℕ) (o : Opened S)
      → IsCut log k s batches next n
      → let bytes = cut_file log batches next n ++ replicate zeros 0 in
      OpensOn app c given log bytes at o
      → OpensCrashed given log k at s bytes o ⊎ ReadsByChanceOf (logged_by c) log batches next bytes
