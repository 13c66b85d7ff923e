-- Records as bytes, whatever codec they have. What one sync puts on a disk is a batch: some records, in their order. A batch is one
-- frame, whose payload has the records' bytes, one behind the other.
use Rattle.std.specs.Prelude.{ℕ, ◌≡◌, ◌⊎◌, List, [], ◌∷◌, ◌++◌, Result, Ok, length, map}
use Rattle.std.specs.List.{AllByRecursion, flat_map}
use Rattle.std.proofs.Common.{suc, zero}
use Rattle.raft_frames.specs.declared.header.LogId.{LogId}
use Rattle.raft_frames.specs.Format.{after_all, start}
use Rattle.raft_frames.specs.Laws.{IsPayload, file}
use Rattle.raft_frames.specs.Reading.{Contents, read}
use Rattle.raft_codec.specs.declared.error.DecodeError.{DecodeError}
use Rattle.raft_codec.specs.Codec.{Codec, ◌>>=◌}

-- the records of batches, in their order
abbrev pub all_of : {R : Type 0} → List (List R) → List R
all_of batches = flat_map (λ batch. batch) batches

-- the batch that records are, if they are any
abbrev pub one_batch : {R : Type 0} → List R → List (List R)
one_batch [] = []
one_batch (r ∷ records) = (r ∷ records) ∷ []

module _ {R : Type 0} (c : Codec R) where
  -- the payload of a batch's frame
  abbrev pub bytes_of : List R → List ℕ
  bytes_of records = flat_map c.bytes records

  -- a batch that can be written: each record has its bytes, and together they are a payload
  pub record IsBatchOf (records : List R) : Type 0 where
    pub fits : AllByRecursion c.fits records
    pub payload : IsPayload (bytes_of records)

  abbrev pub AreBatchesOf : List (List R) → Type 0
  AreBatchesOf batches = AllByRecursion IsBatchOf batches

  -- the file to which these batches were written, and nothing else has happened
  abbrev pub file_of : LogId → List (List R) → List ℕ
  file_of log batches = file log (map bytes_of batches)

  -- a file has these batches: the header is written with the first of them
  abbrev pub IsFileOf : LogId → List (List R) → List ℕ → Type 0
  IsFileOf log batches bytes = ((bytes ≡ []) × (batches ≡ [])) ⊎ (bytes ≡ file_of log batches)

  -- the records that stand in bytes, one behind the other up to their end. At most n: a record has a byte at least
  abbrev pub read_at : ℕ → List ℕ → Result (List R) DecodeError
  read_at zero bytes = Ok []
  read_at (suc n) [] = Ok []
  read_at (suc n) (byte ∷ bytes) = do
    first ← c.read (byte ∷ bytes)
    others ← read_at n first.1
    Ok (first.0 ∷ others)

  -- the records of frames, by their payloads
  abbrev pub read_in : List (List ℕ) → Result (List R) DecodeError
  read_in [] = Ok []
  read_in (payload ∷ payloads) = do
    first ← read_at (length payload) payload
    others ← read_in payloads
    Ok (first ++ others)

  -- what is read of a file's bytes: the frames that stand there whole, and their records
  pub record HoldsOf (log : LogId) (bytes : List ℕ) (contents : Contents) (records : List R) : Type 0 where
    pub frames : read log bytes ≡ Ok contents
    pub decoded : read_in contents.payloads ≡ Ok records

  -- what is read of a file with these batches: their frames, and their records
  pub record HoldsBatchesOf (log : LogId) (bytes : List ℕ) (batches : List (List R)) : Type 0 where
    pub contents : Contents
    pub payloads : contents.payloads ≡ map bytes_of batches
    pub tail : contents.tail ≡ after_all (start log) (map bytes_of batches)
    pub holds : HoldsOf log bytes contents (all_of batches)
