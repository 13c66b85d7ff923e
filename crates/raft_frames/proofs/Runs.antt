-- Whole logs: frames one behind the other, cut, filled with zeros, damaged, and gone on with.
use Rattle.std.specs.Prelude.{ℕ, ◌≡◌, ◌<◌, ◌≤◌, ◌+◌, ◌-◌, true, List, [], ◌∷◌, ◌++◌, length, None, Ok, Err, nat_eq, if◌then◌else◌, refl}
use Rattle.std.specs.List.{starts_with}
use Rattle.std.specs.Bool.{Decides}
use Rattle.std.proofs.lemmas.Slice.Eq.{starts_is}
use Rattle.std.proofs.Common.{suc, arith, ◌∙◌, ap, sym}
use Rattle.std.proofs.lemmas.Bool.{eq-eqb, eqb-true}
use Rattle.std.proofs.lemmas.List.{append_assoc, append-nil, length-append, drop_at}
use Rattle.raft_frames.specs.Format.{after, after_all, frame, frames, header, start}
use Rattle.raft_frames.specs.Laws.{ArePayloads, contents, file}
use Rattle.raft_frames.specs.Reading.{behind, fault_of, is_new, new_log, next, nothing, read, read_frames}
use Rattle.raft_frames.specs.declared.error.Fault.{Fault}
use Rattle.raft_frames.specs.declared.header.LogId.{LogId}
use Rattle.raft_frames.specs.declared.tail.Tail.{Tail}
use Rattle.raft_frames.proofs.Frames.{frame-length, next-frame, next-short}
use Rattle.raft_frames.proofs.ReadLemmas.{behind_all, behind_all-err, behind_all-ok, read_frames-end, read_frames-err, read_frames-frame}

pub frames-length : (tail : Tail) (payloads : List (List ℕ)) → tail.position + length (frames tail payloads) ≡ (after_all tail payloads).position
frames-length tail [] = omega arith
frames-length tail (p ∷ payloads) =
    let total : length (frame tail p ++ frames (after tail p) payloads) ≡ length (frame tail p) + length (frames (after tail p) payloads) = length-append (frame tail p) (frames (after tail p) payloads) in
    let one : length (frame tail p) ≡ 12 + length p = frame-length tail p in
    let rest : tail.position + (12 + length p) + length (frames (after tail p) payloads) ≡ (after_all (after tail p) payloads).position = frames-length (after tail p) payloads in
    omega (arith, total, one, rest)

-- there are fewer frames than bytes
pub counted : (tail : Tail) (payloads : List (List ℕ)) → length payloads ≤ length (frames tail payloads)
counted tail [] = omega arith
counted tail (p ∷ payloads) =
    let total : length (frame tail p ++ frames (after tail p) payloads) ≡ length (frame tail p) + length (frames (after tail p) payloads) = length-append (frame tail p) (frames (after tail p) payloads) in
    let one : length (frame tail p) ≡ 12 + length p = frame-length tail p in
    let rest : length payloads ≤ length (frames (after tail p) payloads) = counted (after tail p) payloads in
    omega (arith, total, one, rest)

-- whole frames are read, whatever follows
pub read_frames-frames : (n : ℕ) (tail : Tail) (payloads : List (List ℕ)) (rest : List ℕ) → ArePayloads payloads
    → read_frames (length payloads + n) tail (frames tail payloads ++ rest) ≡ behind_all payloads (read_frames n (after_all tail payloads) rest)
read_frames-frames n tail [] rest each = ap (λ m. read_frames m tail rest) (omega arith)
read_frames-frames n tail (p ∷ payloads) rest each =
    let one_more : length (p ∷ payloads) + n ≡ suc (length payloads + n) = omega arith in
    let others = frames (after tail p) payloads ++ rest in
    ap (λ m. read_frames m tail (frames tail (p ∷ payloads) ++ rest)) one_more
    ∙ (ap (read_frames (suc (length payloads + n)) tail) (append_assoc (frame tail p) (frames (after tail p) payloads) rest)
    ∙ (read_frames-frame (length payloads + n) tail (frame tail p ++ others) p (next-frame tail p others each.0)
    ∙ (ap (λ bytes. behind p (read_frames (length payloads + n) (after tail p) bytes)) (drop_at (frame tail p) others (12 + length p) (frame-length tail p))
    ∙ ap (behind p) (read_frames-frames n (after tail p) payloads rest each.1))))

-- the same with as much to do as there are bytes
pub all_frames : (tail : Tail) (payloads : List (List ℕ)) (rest : List ℕ) → ArePayloads payloads
    → read_frames (length (frames tail payloads ++ rest)) tail (frames tail payloads ++ rest)
    ≡ behind_all payloads (read_frames (length (frames tail payloads ++ rest) - length payloads) (after_all tail payloads) rest)
all_frames tail payloads rest each =
    let few : length payloads ≤ length (frames tail payloads ++ rest) = omega (arith, length-append (frames tail payloads) rest, counted tail payloads) in
    let split : length (frames tail payloads ++ rest) ≡ length payloads + (length (frames tail payloads ++ rest) - length payloads) = omega (arith, few) in
    ap (λ m. read_frames m tail (frames tail payloads ++ rest)) split ∙ read_frames-frames (length (frames tail payloads ++ rest) - length payloads) tail payloads rest each

pub frames-end : (tail : Tail) (payloads : List (List ℕ)) (rest : List ℕ) → ArePayloads payloads → next (after_all tail payloads) rest ≡ Ok None
    → read_frames (length (frames tail payloads ++ rest)) tail (frames tail payloads ++ rest)
    ≡ Ok (record { payloads = payloads; end = (after_all tail payloads).position; tail = after_all tail payloads })
frames-end tail payloads rest each ends =
    let there = after_all tail payloads in
    all_frames tail payloads rest each
    ∙ (ap (behind_all payloads) (read_frames-end (length (frames tail payloads ++ rest) - length payloads) there rest ends)
    ∙ (behind_all-ok payloads (nothing there) ∙ ap (λ ps. Ok (record { payloads = ps; end = there.position; tail = there })) (append-nil payloads)))

pub frames-damaged : (tail : Tail) (payloads : List (List ℕ)) (rest : List ℕ) (fault : Fault) → ArePayloads payloads → 0 < length rest → next (after_all tail payloads) rest ≡ Err fault
    → read_frames (length (frames tail payloads ++ rest)) tail (frames tail payloads ++ rest) ≡ Err fault
frames-damaged tail payloads rest fault each some damaged =
    let there = after_all tail payloads in
    let left = length (frames tail payloads ++ rest) - length payloads in
    let more : left ≡ suc (left - 1) = omega (arith, length-append (frames tail payloads) rest, counted tail payloads, some) in
    all_frames tail payloads rest each
    ∙ (ap (λ m. behind_all payloads (read_frames m there rest)) more
    ∙ (ap (behind_all payloads) (read_frames-err (left - 1) there rest fault damaged) ∙ behind_all-err payloads fault))

-- a file that begins with the header
pub same_bytes : (a b : ℕ) → Decides (nat_eq a b) (a ≡ b)
same_bytes a b = (eqb-true a b, eq-eqb a b)

pub begins : (id : LogId) (bytes : List ℕ) → starts_with nat_eq (header id ++ bytes) (header id) ≡ true
begins id bytes = (starts_is same_bytes (header id ++ bytes) (header id) (starts_with nat_eq (header id ++ bytes) (header id)) refl).1 bytes refl

pub read-header : (id : LogId) (bytes : List ℕ) → read id (header id ++ bytes) ≡ read_frames (length bytes) (start id) bytes
read-header id bytes =
    ap (λ t. if t then read_frames (length bytes) (start id) bytes else if is_new (header id) (header id ++ bytes) then Ok (new_log id) else Err (fault_of id (header id ++ bytes))) (begins id bytes)

-- a file of frames, and what stands behind them
pub read-end : (id : LogId) (payloads : List (List ℕ)) (rest : List ℕ) → ArePayloads payloads → next (after_all (start id) payloads) rest ≡ Ok None
    → read id (header id ++ (frames (start id) payloads ++ rest)) ≡ Ok (contents id payloads)
read-end id payloads rest each ends = read-header id (frames (start id) payloads ++ rest) ∙ frames-end (start id) payloads rest each ends

pub read-damaged : (id : LogId) (payloads : List (List ℕ)) (rest : List ℕ) (fault : Fault) → ArePayloads payloads → 0 < length rest → next (after_all (start id) payloads) rest ≡ Err fault
    → read id (header id ++ (frames (start id) payloads ++ rest)) ≡ Err fault
read-damaged id payloads rest fault each some damaged =
    read-header id (frames (start id) payloads ++ rest) ∙ frames-damaged (start id) payloads rest fault each some damaged

pub read-file : (id : LogId) (payloads : List (List ℕ)) → ArePayloads payloads → read id (file id payloads) ≡ Ok (contents id payloads)
read-file id payloads each =
    ap (λ bytes. read id (header id ++ bytes)) (sym (append-nil (frames (start id) payloads)))
    ∙ read-end id payloads [] each (next-short (after_all (start id) payloads) [] (omega arith))
