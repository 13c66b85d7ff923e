-- Servers with files. What is on a server's disk is a file of bytes: several records come there by one sync, as one frame, and what
-- their steps say leaves together. Steps that leave no record need no sync. A crash may leave some of the bytes that are being written, and zeros behind them; the server
-- starts on what it reads of the file, and on nothing else.
use Rattle.std.specs.Prelude.{ℕ, ◌≡◌, ◌≤◌, ◌⊎◌, List, [], ◌∷◌, ◌++◌, None, Option, Some, Ok, Err, Contains, fold, if◌then◌else◌, length, map, nat_eq, replicate, take}
use Rattle.raft_frames.specs.declared.header.LogId.{LogId}
use Rattle.raft_frames.specs.Format.{frames}
use Rattle.raft_frames.specs.Laws.{kept_of}
use Rattle.raft_frames.specs.Reading.{read}
use Rattle.raft_store.specs.declared.entry.Entry.{Entry}
use Rattle.raft_node.specs.declared.given.Given.{Given}
use Rattle.raft_node.specs.Net.{Records, new_node, no_records}
use Rattle.raft_wire.specs.declared.record.Record.{Record}
use Rattle.proof_servers.specs.Recorded.{joined}
use Rattle.proof_servers.specs.Servers.{MayTake, Server, Step, flushed_first, new_disk, started, with_step}
use Rattle.proof_logs.specs.Laws.{ReadsByChance}
use Rattle.proof_logs.specs.Logs.{AreBatches, IsFile, batch_bytes, restored, first_batch, records_in}

-- a server and its file
pub record FileServer : Type 0 where
  pub server : Server
  pub file : List ℕ

pub record FileCluster : Type 0 where
  pub servers : ℕ → FileServer
  pub released : Records (List Entry)

-- a file with more batches: their frames go behind those that are read of it; with none it is as before
abbrev pub with_batches : LogId → List (List Record) → List ℕ → List ℕ
with_batches log [] file = file
with_batches log (batch ∷ batches) file = elim (read log file) [ Err fault ↦ file | Ok c ↦ kept_of log file c ++ frames c.tail (map batch_bytes (batch ∷ batches)) ]

-- what is read of a file: the records, and what is kept of it; nothing if it is damaged
pub record Opened : Type 0 where
  pub records : List Record
  pub file : List ℕ

abbrev pub opened : LogId → List ℕ → Option Opened
opened log bytes =
    elim (read log bytes) [
      | Err fault ↦ None
      | Ok c ↦ elim (records_in c.payloads) [ Err e ↦ None | Ok records ↦ Some (record { records = records; file = take c.end bytes }) ]
    ]

-- the bytes that a crash leaves while what the k oldest waiting steps leave comes on disk: the first n, and zeros
abbrev pub left_file : LogId → ℕ → ℕ → ℕ → FileServer → List ℕ
left_file log k n zeros s = take n (with_batches log (first_batch k s.server.waiting) s.file) ++ replicate zeros 0

-- one server in another's place
abbrev pub with_file_server : ℕ → FileServer → FileCluster → FileCluster
with_file_server id s c = record c { servers = λ other. if nat_eq other id then s else c.servers other }

-- what happens at a server, by its id: it takes a step; the records of its k oldest waiting steps come on disk as one frame, if
-- there are any, and what those steps say leaves; or it crashes while they do (how many bytes are left, and how many zeros), and
-- starts, if it can read its file
pub data FileAction : Type 0 where
  Takes : ℕ → Step → FileAction
  Syncs : ℕ → ℕ → FileAction
  Crashes : ℕ → ℕ → ℕ → ℕ → ℕ → FileAction

-- whose log a server's file is
abbrev pub log_of : ℕ → ℕ → LogId
log_of cluster id = record { cluster = cluster; node = id }

module _ (cluster : ℕ) (given : Given) where
  abbrev pub after_file_action : FileAction → FileCluster → FileCluster
  after_file_action (Takes id step) c = with_file_server id (record (c.servers id) { server = with_step given step (c.servers id).server }) c
  after_file_action (Syncs id k) c =
      let s = c.servers id in
      let ws = s.server.waiting in
      record (with_file_server id (record { server = flushed_first k s.server; file = with_batches (log_of cluster id) (first_batch k ws) s.file }) c) {
        released = fold (λ r w. joined r w.outputs) c.released (take k ws);
      }
  after_file_action (Crashes id k n zeros at) c =
      elim (opened (log_of cluster id) (left_file (log_of cluster id) k n zeros (c.servers id))) [
        | None ↦ c
        | Some o ↦ with_file_server id (record { server = started given id at (restored o.records); file = o.file }) c
      ]

  abbrev pub after_file_actions : List FileAction → FileCluster → FileCluster
  after_file_actions [] c = c
  after_file_actions (a ∷ rest) c = after_file_actions rest (after_file_action a c)

  -- What may happen: records can be written, and fit a frame; a crash leaves all bytes that were synced; and what it fills with
  -- zeros isn't read as something that nobody wrote, by chance.
  abbrev pub MayActOnFile : FileAction → FileCluster → Type 0
  MayActOnFile (Takes id step) c = Contains given.ids id × MayTake c.released.bag id step.act
  MayActOnFile (Syncs id k) c = Contains given.ids id × AreBatches (first_batch k (c.servers id).server.waiting)
  MayActOnFile (Crashes id k n zeros at) c =
      let s = c.servers id in
      Contains given.ids id × AreBatches (first_batch k s.server.waiting) × (length s.file ≤ n)
      × ((zeros ≡ 0)
      ⊎ ((batches : List (List Record)) → IsFile (log_of cluster id) batches s.file → ReadsByChance (log_of cluster id) k s.server batches (left_file (log_of cluster id) k n zeros s) → ⊥))

  abbrev pub AllMayActOnFiles : List FileAction → FileCluster → Type 0
  AllMayActOnFiles [] c = Unit {0}
  AllMayActOnFiles (a ∷ rest) c = MayActOnFile a c × AllMayActOnFiles rest (after_file_action a c)

  -- servers that start empty, with empty files
  abbrev pub new_file_cluster : FileCluster
  new_file_cluster = record { servers = λ id. record { server = record { node = new_node given.settings id; reserved = 0; waiting = []; disk = new_disk }; file = [] }; released = no_records }
