-- What holds of a log's batches, whatever codec their records have, and whatever a crash leaves of the log's file.
use Rattle.std.specs.Prelude.{ℕ, ◌≡◌, ◌≢◌, ◌≤◌, ◌⊎◌, List, [], ◌∷◌, ◌++◌, Err, Ok, length, map, replicate, take}
use Rattle.std.specs.List.{AllByRecursion}
use Rattle.raft_frames.specs.declared.error.Fault.TheVariants.{Damaged}
use Rattle.raft_frames.specs.declared.header.LogId.{LogId}
use Rattle.raft_frames.specs.Format.{after, after_all, check_of, frame, start, sum_of}
use Rattle.raft_frames.specs.Laws.{IsByte, contents, headed}
use Rattle.raft_frames.specs.Reading.{read}
use Rattle.raft_codec.specs.Codec.{Codec}
use Rattle.proof_logs.specs.Batches.{AreBatchesOf, HoldsBatchesOf, IsBatchOf, IsFileOf, all_of, bytes_of, file_of, one_batch, read_in}

module _ {R : Type 0} (c : Codec R) where
  -- what was written is read, each record once and in its order
  abbrev pub ReadBack : Type 0
  ReadBack = (log : LogId) (batches : List (List R)) → AreBatchesOf c batches → HoldsBatchesOf c log (file_of c log batches) batches

  -- and nothing else is: records that are read of frames stand there as they are written
  abbrev pub Stand : Type 0
  Stand =
      (payloads : List (List ℕ)) (records : List R) → read_in c payloads ≡ Ok records
      → (batches : List (List R)) × AllByRecursion (AllByRecursion c.fits) batches
      × (payloads ≡ map (bytes_of c) batches) × (records ≡ all_of batches)

  -- A file's batches, the records that are being written behind them, and the number of bytes that a crash leaves: what is on disk of
  -- the file is among them, and the frame of these records may be.
  pub record IsCutOf (log : LogId) (batches : List (List R)) (next : List R) (n : ℕ) : Type 0 where
    pub writable : AreBatchesOf c batches
    pub more : AreBatchesOf c (one_batch next)
    pub file : List ℕ
    pub is : IsFileOf c log batches file
    pub there : length file ≤ n

  -- so many bytes of the file with the batch that is being written
  abbrev pub cut_of : LogId → List (List R) → List R → ℕ → List ℕ
  cut_of log batches next n = take n (file_of c log (batches ++ one_batch next))

  -- What a crash left is read as the batches that were there, without the batch that was being written or with it. What is kept of the
  -- file has these batches, and nothing else.
  pub record Leaves (log : LogId) (batches : List (List R)) (next : List R) (bytes : List ℕ) : Type 0 where
    pub left : List (List R)
    pub whole : (left ≡ batches) ⊎ (left ≡ batches ++ one_batch next)
    pub writable : AreBatchesOf c left
    pub found : HoldsBatchesOf c log bytes left
    pub kept : IsFileOf c log left (take found.contents.end bytes)

  -- cut at any byte that isn't on disk yet
  abbrev pub CutsLeave : Type 0
  CutsLeave =
      (log : LogId) (batches : List (List R)) (next : List R) (n : ℕ) → IsCutOf log batches next n
      → Leaves log batches next (cut_of log batches next n)

  -- Frames are read that nobody wrote: zeros in the place of what a crash has cut off have the right sums by chance.
  pub record ReadsByChanceOf (log : LogId) (batches : List (List R)) (next : List R) (bytes : List ℕ) : Type 0 where
    pub found : List (List ℕ)
    pub reads : read log bytes ≡ Ok (contents log (map (bytes_of c) batches ++ found))
    pub some : found ≢ []
    pub other : found ≢ map (bytes_of c) (one_batch next)

  -- and filled with zeros behind the cut
  abbrev pub FilledCutsLeave : Type 0
  FilledCutsLeave =
      (log : LogId) (batches : List (List R)) (next : List R) (n zeros : ℕ) → IsCutOf log batches next n
      → let bytes = cut_of log batches next n ++ replicate zeros 0 in
      Leaves log batches next bytes ⊎ ReadsByChanceOf log batches next bytes

  -- another byte in a batch, with a whole one behind it, is told, and no record behind it is taken
  abbrev pub TellDamage : Type 0
  TellDamage =
      (log : LogId) (batches : List (List R)) (batch behind : List R) (front back rest : List ℕ) (b other : ℕ)
      → AreBatchesOf c batches → IsBatchOf c batch → IsBatchOf c behind → bytes_of c batch ≡ front ++ b ∷ back → IsByte other → other ≢ b
      → let there = after_all (start log) (map (bytes_of c) batches) in
      let len = length (bytes_of c batch) in
      let damaged = headed len (check_of there.seed there.position len) (sum_of there.sum (bytes_of c batch)) (front ++ other ∷ back) in
      read log (file_of c log batches ++ (damaged ++ (frame (after there (bytes_of c batch)) (bytes_of c behind) ++ rest)))
      ≡ Err (Damaged there.position)
