-- Files of bytes, and what is kept of one that is read.
use Rattle.std.specs.Prelude.{ℕ, ◌≡◌, ◌+◌, ◌⊎◌, List, [], ◌∷◌, ◌++◌, Ok, length, map, replicate, take}
use Rattle.std.specs.List.{AllByRecursion}
use Rattle.std.proofs.Common.{arith, inl, inr, suc, zero}
use Rattle.raft_frames.specs.declared.header.LogId.{LogId}
use Rattle.raft_frames.specs.declared.tail.Tail.{Tail}
use Rattle.raft_frames.specs.Format.{after, after_all, check_of, frames, header, start, sum_of, word}
use Rattle.raft_frames.specs.Laws.{ArePayloads, IsByte, contents, file}
use Rattle.raft_frames.specs.Reading.{read}
use Rattle.raft_frames.proofs.Bytes.{all-append, word-bytes}
use Rattle.raft_frames.proofs.Runs.{frames-length}
use Rattle.raft_frames.proofs.Spelled.{spelled}
use Rattle.raft_codec.specs.Codec.{Codec}
use Rattle.raft_wire.specs.declared.record.Record.{Record}
use Rattle.raft_wire.specs.Records.{logged}
use Rattle.proof_logs.specs.Batches.{AreBatchesOf, bytes_of}
use Rattle.proof_logs.specs.Logs.{AreBatches, batch_bytes}

-- batches are payloads
pub are_payloads : {R : Type 0} (c : Codec R) (batches : List (List R)) → AreBatchesOf c batches → ArePayloads (map (bytes_of c) batches)
are_payloads c [] are = tt
are_payloads c (batch ∷ batches) are = (are.0.payload, are_payloads c batches are.1)

pub payloads_of : (batches : List (List Record)) → AreBatches batches → ArePayloads (map batch_bytes batches)
payloads_of batches are = are_payloads logged batches are

-- a file is bytes
header_bytes : (log : LogId) → AllByRecursion IsByte (header log)
header_bytes log = (omega arith, (omega arith, (omega arith, (omega arith, (omega arith, (omega arith, (omega arith, (omega arith, (omega arith, (omega arith, (omega arith, (omega arith, (omega arith, (omega arith, (omega arith, (omega arith, (omega arith, (omega arith, (omega arith, (omega arith, (omega arith, (omega arith, (omega arith, (omega arith, (omega arith, (omega arith, (omega arith, (omega arith, (omega arith, (omega arith, (omega arith, (omega arith, tt))))))))))))))))))))))))))))))))

frames_bytes : (tail : Tail) (payloads : List (List ℕ)) → ArePayloads payloads → AllByRecursion IsByte (frames tail payloads)
frames_bytes tail [] are = tt
frames_bytes tail (p ∷ payloads) are =
    let len = word (length p) in
    let check = word (check_of tail.seed tail.position (length p)) in
    let sum = word (sum_of tail.sum p) in
    all-append (len ++ (check ++ (sum ++ p))) (frames (after tail p) payloads)
    (all-append len (check ++ (sum ++ p)) (word-bytes (length p))
    (all-append check (sum ++ p) (word-bytes (check_of tail.seed tail.position (length p))) (all-append sum p (word-bytes (sum_of tail.sum p)) are.0.bytes)))
    (frames_bytes (after tail p) payloads are.1)

pub file_bytes : (log : LogId) (payloads : List (List ℕ)) → ArePayloads payloads → AllByRecursion IsByte (file log payloads)
file_bytes log payloads are = all-append (header log) (frames (start log) payloads) (header_bytes log) (frames_bytes (start log) payloads are)

pub zeros_bytes : (n : ℕ) → AllByRecursion IsByte (replicate n 0)
zeros_bytes zero = tt
zeros_bytes (suc n) = (omega arith, zeros_bytes n)

-- of a file that is read so the header and these frames are kept
pub kept_is : (log : LogId) (bytes : List ℕ) (payloads : List (List ℕ)) → AllByRecursion IsByte bytes → read log bytes ≡ Ok (contents log payloads)
    → take (contents log payloads).end bytes ≡ file log payloads
kept_is log bytes payloads each reads = go (spelled log bytes (contents log payloads) each reads).end
  where
    go : ((((after_all (start log) payloads).position ≡ 0) × (payloads ≡ []))
        ⊎ (((after_all (start log) payloads).position ≡ (after_all (start log) payloads).position) × (take (after_all (start log) payloads).position bytes ≡ file log payloads)))
        → take (after_all (start log) payloads).position bytes ≡ file log payloads
    go (inl new) = (let h : 32 + length (frames (start log) payloads) ≡ (after_all (start log) payloads).position = frames-length (start log) payloads in absurd (omega (arith, h, new.0)))
    go (inr old) = old.1
