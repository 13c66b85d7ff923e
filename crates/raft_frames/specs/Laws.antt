-- What holds of logs, whatever a crash or damage makes of them: laws of the definitions that the code equals.
use Rattle.std.specs.Prelude.{ℕ, ◌≡◌, ◌≢◌, ◌<◌, ◌≤◌, ◌+◌, ◌^◌, true, false, List, [], ◌∷◌, ◌++◌, length, take, drop, replicate, None, Ok, Err, nat_lt, if◌then◌else◌, nat_eq, ◌⊎◌}
use Rattle.std.specs.List.{AllByRecursion}
use Rattle.raft_frames.specs.Format.{after, after_all, check_of, frame, frames, header, start, sum_of, word}
use Rattle.raft_frames.specs.Reading.{Contents, has_head, is_head, is_zero, new_log, next, number_at, read}
use Rattle.raft_frames.specs.declared.error.Fault.TheVariants.{Cluster, Damaged, Node}
use Rattle.raft_frames.specs.declared.header.LogId.{LogId}
use Rattle.raft_frames.specs.declared.tail.Tail.{Tail}
use Rattle.raft_frames.specs.declared.tail.TheConstants.{MAX_FRAME}

abbrev pub IsByte : ℕ → Type 0
IsByte b = b < 256

-- what can be pushed
pub record IsPayload (payload : List ℕ) : Type 0 where
  pub some : 1 ≤ length payload
  pub short : length payload ≤ MAX_FRAME
  pub bytes : AllByRecursion IsByte payload

abbrev pub ArePayloads : List (List ℕ) → Type 0
ArePayloads payloads = AllByRecursion IsPayload payloads

-- a file to which nothing has happened
abbrev pub file : LogId → List (List ℕ) → List ℕ
file id payloads = header id ++ frames (start id) payloads

-- what is read of a file: these frames, up to the place behind them
abbrev pub contents : LogId → List (List ℕ) → Contents
contents id payloads = record { payloads = payloads; end = (after_all (start id) payloads).position; tail = after_all (start id) payloads }

-- what is written is read, and all of it is kept
abbrev pub ReadsBack : Type 0
ReadsBack = (id : LogId) (payloads : List (List ℕ)) → ArePayloads payloads
    → (read id (file id payloads) ≡ Ok (contents id payloads)) × (length (file id payloads) ≡ (contents id payloads).end)

-- Whole frames are read in front of whatever ends the log, as does what has no frame's head at any place.
abbrev pub ReadsWhole : Type 0
ReadsWhole = (id : LogId) (payloads : List (List ℕ)) (rest : List ℕ) → ArePayloads payloads
    → next (after_all (start id) payloads) rest ≡ Ok None → read id (file id payloads ++ rest) ≡ Ok (contents id payloads)

abbrev pub EndsWithoutHeads : Type 0
EndsWithoutHeads = (tail : Tail) (rest : List ℕ) → has_head tail.seed tail.position rest ≡ false → next tail rest ≡ Ok None

-- A file that is cut at any byte, as a crash leaves it, is read as its first frames, at least all whose bytes are there. Without its whole header it is new.
pub record Keeps (id : LogId) (payloads : List (List ℕ)) (n : ℕ) (found : List ℕ) : Type 0 where
  pub kept : ℕ
  pub reads : read id found ≡ Ok (if nat_lt n 32 then new_log id else contents id (take kept payloads))
  pub enough : (j : ℕ) → j ≤ length payloads → length (file id (take j payloads)) ≤ n → j ≤ kept

abbrev pub Recovers : Type 0
Recovers = (id : LogId) (payloads : List (List ℕ)) (n : ℕ) → ArePayloads payloads → Keeps id payloads n (take n (file id payloads))

-- So is one that is filled with zeros behind the cut; but a frame that was cut may be read too: where zeros complete it, or where its sum is right by chance.
pub record KeepsFilled (id : LogId) (payloads : List (List ℕ)) (n : ℕ) (found : List ℕ) : Type 0 where
  pub kept : ℕ
  pub torn : List (List ℕ)
  pub one : length torn ≤ 1
  pub reads : (read id found ≡ Ok (contents id (take kept payloads ++ torn))) ⊎ ((n < 32) × (read id found ≡ Ok (new_log id)))
  pub enough : (j : ℕ) → j ≤ length payloads → length (file id (take j payloads)) ≤ n → j ≤ kept

abbrev pub RecoversFilled : Type 0
RecoversFilled = (id : LogId) (payloads : List (List ℕ)) (n zeros : ℕ) → ArePayloads payloads
    → KeepsFilled id payloads n (take n (file id payloads) ++ replicate zeros 0)

-- These bytes don't pass for the frame whose place they are in: they don't begin as a frame does, or as one of the same length and with another sum.
abbrev pub IsDamaged : Tail → List ℕ → List ℕ → Type 0
IsDamaged tail payload bytes = is_head tail.seed tail.position bytes ≡ true → (number_at 0 bytes ≡ length payload) × (number_at 8 bytes ≢ sum_of tail.sum (drop 12 bytes))

-- Where a frame is damaged, and the one behind it is there, it is told which.
abbrev pub TellsDamage : Type 0
TellsDamage = (id : LogId) (payloads : List (List ℕ)) (payload bytes behind rest : List ℕ) → ArePayloads payloads → IsPayload behind
    → length bytes ≡ 12 + length payload → IsDamaged (after_all (start id) payloads) payload bytes
    → let there = after_all (start id) payloads in
    read id (file id payloads ++ (bytes ++ (frame (after there payload) behind ++ rest))) ≡ Err (Damaged there.position)

-- These surely are damage: another length, check or sum in the head, or another byte in the payload. (A payload with several other bytes has the sum of
-- the first once in 2 ^ 32.)
abbrev pub headed : ℕ → ℕ → ℕ → List ℕ → List ℕ
headed len check sum payload = word len ++ (word check ++ (word sum ++ payload))

pub record ChangesAreDamage (tail : Tail) (payload : List ℕ) (len check sum : ℕ) : Type 0 where
  pub another_length : (other : ℕ) → other < 2 ^ 32 → other ≢ len → IsDamaged tail payload (headed other check sum payload)
  pub another_check : (other : ℕ) → other < 2 ^ 32 → other ≢ check → IsDamaged tail payload (headed len other sum payload)
  pub another_sum : (other : ℕ) → other < 2 ^ 32 → other ≢ sum → IsDamaged tail payload (headed len check other payload)
  pub another_byte : (front back : List ℕ) (b other : ℕ) → payload ≡ front ++ b ∷ back → IsByte other → other ≢ b → IsDamaged tail payload (headed len check sum (front ++ other ∷ back))

abbrev pub TellsChanges : Type 0
TellsChanges = (tail : Tail) (payload : List ℕ) → IsPayload payload
    → ChangesAreDamage tail payload (length payload) (check_of tail.seed tail.position (length payload)) (sum_of tail.sum payload)

-- zeros in a frame's place are damage
abbrev pub ZerosAreDamage : Type 0
ZerosAreDamage = (tail : Tail) (payload : List ℕ) → IsDamaged tail payload (replicate (12 + length payload) 0)

-- What is read of a file's bytes is spelled so at its front, up to the end that is told.
pub record Spells (id : LogId) (bytes : List ℕ) (log : Contents) : Type 0 where
  pub payloads : ArePayloads log.payloads
  pub tail : log.tail ≡ after_all (start id) log.payloads
  pub end : ((log.end ≡ 0) × (log.payloads ≡ [])) ⊎ ((log.end ≡ log.tail.position) × (take log.end bytes ≡ file id log.payloads))

abbrev pub ReadsWhatIsThere : Type 0
ReadsWhatIsThere = (id : LogId) (bytes : List ℕ) (log : Contents) → AllByRecursion IsByte bytes → read id bytes ≡ Ok log → Spells id bytes log

-- what is kept of a file, or the header of a new one
abbrev pub kept_of : LogId → List ℕ → Contents → List ℕ
kept_of id bytes log = if nat_eq log.end 0 then header id else take log.end bytes

-- What is kept goes on as one log with the frames that are written behind it.
abbrev pub GoesOn : Type 0
GoesOn = (id : LogId) (bytes : List ℕ) (log : Contents) (more : List (List ℕ)) → AllByRecursion IsByte bytes → read id bytes ≡ Ok log → ArePayloads more
    → read id (kept_of id bytes log ++ frames log.tail more) ≡ Ok (contents id (log.payloads ++ more))

-- The log of another cluster or node is refused, if it has a frame.
abbrev pub IsId : LogId → Type 0
IsId id = (id.cluster < 2 ^ 64) × (id.node < 2 ^ 64)

abbrev pub RefusesOthers : Type 0
RefusesOthers = (id other : LogId) (rest : List ℕ) → IsId id → IsId other → id ≢ other → is_zero rest ≡ false
    → read id (header other ++ rest) ≡ Err (if nat_eq other.cluster id.cluster then Node other.node else Cluster other.cluster)
