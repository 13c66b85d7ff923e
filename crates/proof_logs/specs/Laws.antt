-- What holds of servers' logs, whatever a crash leaves of them.
use Rattle.std.specs.Prelude.{ℕ, ◌≡◌, ◌≢◌, ◌≤◌, ◌⊎◌, List, ◌∷◌, ◌++◌, Err, Ok, length, map, replicate, take}
use Rattle.std.specs.List.{AllByRecursion}
use Rattle.raft_frames.specs.declared.error.Fault.TheVariants.{Damaged}
use Rattle.raft_frames.specs.declared.header.LogId.{LogId}
use Rattle.raft_frames.specs.Format.{after, after_all, check_of, frame, start, sum_of}
use Rattle.raft_frames.specs.Laws.{IsByte, headed}
use Rattle.raft_frames.specs.Reading.{read}
use Rattle.raft_wire.specs.declared.record.Record.{Record}
use Rattle.raft_wire.specs.Records.{logged}
use Rattle.raft_node.specs.declared.given.Given.{Given}
use Rattle.proof_servers.specs.Servers.{Server, crashed, started}
use Rattle.proof_logs.specs.Batches.{HoldsBatchesOf}
use Rattle.proof_logs.specs.BatchLaws.{ReadsByChanceOf}
use Rattle.proof_logs.specs.Logs.{AreBatches, HasLog, IsBatch, IsFile, batch_bytes, first_batch, first_records, log_file, records_in, records_of}
use Rattle.proof_logs.specs.Logs.{restored}

-- what is read of a file with these batches: their frames, and their records
abbrev pub HoldsBatches : LogId → List ℕ → List (List Record) → Type 0
HoldsBatches log bytes batches = HoldsBatchesOf logged log bytes batches

-- what was written is read, each record once and in its order
abbrev pub LogsReadBack : Type 0
LogsReadBack = (log : LogId) (batches : List (List Record)) → AreBatches batches → HoldsBatches log (log_file log batches) batches

-- and nothing else is: records that are read of frames stand there as they are written
abbrev pub RecordsStand : Type 0
RecordsStand =
    (payloads : List (List ℕ)) (records : List Record) → records_in payloads ≡ Ok records
    → (batches : List (List Record)) × AllByRecursion (AllByRecursion logged.fits) batches × (payloads ≡ map batch_bytes batches) × (records ≡ records_of batches)

-- A crash while what the k oldest waiting steps leave comes on disk. What it left is read as the batches that were there, with
-- that one or without it. A server that starts on these records has crashed with all of the batch's records on disk, or with none;
-- what is kept of the file has these batches, and nothing else. (Steps whose outputs have left wait no more: no crash loses one.)
pub record Restores (given : Given) (log : LogId) (id k at : ℕ) (s : Server) (bytes : List ℕ) : Type 0 where
  pub survive : ℕ
  pub whole : (survive ≡ 0) ⊎ (survive ≡ k)
  pub batches : List (List Record)
  pub found : HoldsBatches log bytes batches
  pub starts : started given id at (restored (records_of batches)) ≡ crashed given id survive at s
  pub has : HasLog (crashed given id survive at s) batches
  pub kept : IsFile log batches (take found.contents.end bytes)

-- A server, the batches that its file has, and the number of bytes that a crash leaves: what is on disk of the file is among them,
-- and the frame of what the k oldest waiting steps leave may be.
pub record IsCut (log : LogId) (k : ℕ) (s : Server) (batches : List (List Record)) (n : ℕ) : Type 0 where
  pub has : HasLog s batches
  pub next : AreBatches (first_batch k s.waiting)
  pub file : List ℕ
  pub is : IsFile log batches file
  pub there : length file ≤ n

-- so many bytes of the file with the batch that is being written
abbrev pub cut_file : LogId → ℕ → Server → List (List Record) → ℕ → List ℕ
cut_file log k s batches n = take n (log_file log (batches ++ first_batch k s.waiting))

-- cut at any byte that isn't on disk yet
abbrev pub LogsRestore : Type 0
LogsRestore =
    (given : Given) (log : LogId) (id k at : ℕ) (s : Server) (batches : List (List Record)) (n : ℕ) → IsCut log k s batches n
    → Restores given log id k at s (cut_file log k s batches n)

-- Frames are read that nobody wrote: zeros in the place of what a crash has cut off have the right sums by chance.
abbrev pub ReadsByChance : LogId → ℕ → Server → List (List Record) → List ℕ → Type 0
ReadsByChance log k s batches bytes = ReadsByChanceOf logged log batches (first_records k s.waiting) bytes

-- and filled with zeros behind the cut
abbrev pub LogsRestoreFilled : Type 0
LogsRestoreFilled =
    (given : Given) (log : LogId) (id k at : ℕ) (s : Server) (batches : List (List Record)) (n zeros : ℕ) → IsCut log k s batches n
    → let bytes = cut_file log k s batches n ++ replicate zeros 0 in
    Restores given log id k at s bytes ⊎ ReadsByChance log k s batches bytes

-- another byte in a batch, with a whole one behind it, is told, and no record behind it is taken
abbrev pub LogsTellDamage : Type 0
LogsTellDamage =
    (log : LogId) (batches : List (List Record)) (batch behind : List Record) (front back rest : List ℕ) (b other : ℕ)
    → AreBatches batches → IsBatch batch → IsBatch behind → batch_bytes batch ≡ front ++ b ∷ back → IsByte other → other ≢ b
    → let there = after_all (start log) (map batch_bytes batches) in
    let len = length (batch_bytes batch) in
    let damaged = headed len (check_of there.seed there.position len) (sum_of there.sum (batch_bytes batch)) (front ++ other ∷ back) in
    read log (log_file log batches ++ (damaged ++ (frame (after there (batch_bytes batch)) (batch_bytes behind) ++ rest))) ≡ Err (Damaged there.position)
