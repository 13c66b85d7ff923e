-- What is handed out makes the file of the model's server.
use Rattle.std.proofs.Common.{ℕ, ◌≡◌, ◌≤◌, ◌∙◌, List, [], ◌∷◌, ◌++◌, length, None, Some, refl, sym, ap, subst, append_assoc, arith, inl, inr}
use Rattle.std.specs.Global.{Vec}
use Rattle.std.specs.Option.{option_map}
use Rattle.std.specs.Prelude.{◌⊎◌, Option, map}
use Rattle.std.proofs.lemmas.List.{append-nil, map-append, take_all}
use Rattle.raft_frames.specs.declared.header.LogId.{LogId}
use Rattle.raft_frames.specs.declared.tail.Tail.{Tail}
use Rattle.raft_frames.specs.Format.{after, after_all, frame, frames, header, start}
use Rattle.raft_codec.specs.Codec.{Codec}
use Rattle.proof_logs.specs.Batches.{AreBatchesOf, IsBatchOf, all_of, bytes_of, file_of, one_batch}
use Rattle.proof_logs.proofs.Records.{all_more, batches_join}
use Rattle.proof_packed.specs.Stores.{Application}
use Rattle.raft_packed_wire.specs.declared.record.NamedRecord.{NamedRecord}
use Rattle.raft_packed_wire.specs.Named.{StandFor}
use Rattle.raft_packed_wire.proofs.Standing.{stand_join}
use Rattle.proof_packed_servers.specs.Servers.{PackedDisk, PackedServer, packed_flushed_first, packed_new_disk, packed_with_records}
use Rattle.raft_packed_server.specs.declared.batch.Written.{Written}
use Rattle.raft_packed_server.specs.declared.serving.Serving.{Serving}
use Rattle.raft_packed_server.specs.Laws.{WritesLog, WritesNextLog, for_next}
use Rattle.raft_packed_server.specs.Logs.{HasLog, first_records, left_by, logged_by}
use Rattle.raft_packed_server.specs.Represents.{AreUnwritten, IsHandedOut, Stands}
use Rattle.raft_packed_server.specs.Views.{header_of}
use Rattle.raft_packed_server.proofs.Waiting.{flushed_disk, store_made, unwritten, with_more}

-- ---- frames

-- one more
frames_more : (tail : Tail) (payloads : List (List ℕ)) (p : List ℕ) → frames tail payloads ++ frame (after_all tail payloads) p ≡ frames tail (payloads ++ p ∷ [])
frames_more tail [] p = sym (append-nil (frame tail p))
frames_more tail (x ∷ payloads) p =
    append_assoc (frame tail x) (frames (after tail x) payloads) (frame (after_all (after tail x) payloads) p)
    ∙ ap (λ b. frame tail x ++ b) (frames_more (after tail x) payloads p)

after_more : (tail : Tail) (payloads : List (List ℕ)) (p : List ℕ) → after_all tail (payloads ++ p ∷ []) ≡ after (after_all tail payloads) p
after_more tail [] p = refl
after_more tail (x ∷ payloads) p = after_more (after tail x) payloads p

-- ---- what the k oldest waiting steps leave is on disk: what those records make of it

module _ {S : Type 0} (app : Application S) (c : Codec S) where
  -- so a log with one batch more, which stands for those, makes that disk
  pub log_more : (k : ℕ) (s : PackedServer S) (batches : List (List (NamedRecord S))) (next : List (NamedRecord S)) → HasLog app c s batches
      → AreBatchesOf (logged_by c) (one_batch next) → StandFor app s.disk.store next (first_records k s.waiting)
      → HasLog app c (packed_flushed_first app k s) (batches ++ one_batch next)
  log_more k s batches next has writable stand = record {
    writable = batches_join (logged_by c) batches (one_batch next) has.writable writable;
    records = has.records ++ first_records k s.waiting;
    stand =
        subst (λ rs. StandFor app new.store rs (has.records ++ first_records k s.waiting)) (sym (all_more batches next))
        (stand_join app new.store (all_of batches) next has.records (first_records k s.waiting) has.stand
        (subst (λ t. StandFor app t next (first_records k s.waiting)) (ap (λ (d : PackedDisk S). d.store) has.disk ∙ store_made app has.records new) stand));
    disk =
        flushed_disk app k s
        ∙ (ap (packed_with_records app (first_records k s.waiting)) has.disk ∙ with_more app has.records (first_records k s.waiting) new);
  }
    where
      new : PackedDisk S
      new = packed_new_disk app

-- ---- the records that are handed out

-- records with bytes are a batch
batch_is : {R : Type 0} (c : Codec R) (records : List R) → 1 ≤ length (bytes_of c records) → one_batch records ≡ records ∷ []
batch_is c [] some = absurd (omega (arith, some))
batch_is c (r ∷ records) some = refl

-- the records that are handed out stand for those of all waiting steps
pub record AreFirst {S : Type 0} (app : Application S) (s : PackedServer S) (v : Serving S) : Type 0 where
  pub within : v.steps ≤ length s.waiting
  pub stand : StandFor app s.disk.store v.records (first_records v.steps s.waiting)
  pub batch : one_batch v.records ≡ v.records ∷ []

pub first_is : {S : Type 0} (app : Application S) (c : Codec S) (s : PackedServer S) (v : Serving S) → v.written ≡ None → Stands app s v
    → IsBatchOf (logged_by c) v.records → AreFirst app s v
first_is app c s v none stands batch = record {
  within = omega (arith, are.steps);
  stand =
      subst (λ ws. StandFor app s.disk.store v.records (left_by ws)) (sym (take_all v.steps s.waiting (omega (arith, are.steps)))) are.records;
  batch = batch_is (logged_by c) v.records batch.payload.some;
}
  where
    are : AreUnwritten app s.disk v s.waiting
    are = unwritten app s v none stands

-- so a log with them makes the disk on which what these steps leave is
has_more : {S : Type 0} (app : Application S) (c : Codec S) (s : PackedServer S) (batches : List (List (NamedRecord S))) (v : Serving S) (w : Written)
    → HasLog app c s batches → Stands app s v → IsHandedOut c v w → HasLog app c (packed_flushed_first app v.steps s) (batches ++ v.records ∷ [])
has_more app c s batches v w has stands out =
    let first : AreFirst app s v = first_is app c s v out.none_before stands out.batch in
    subst (λ more. HasLog app c (packed_flushed_first app v.steps s) (batches ++ more)) first.batch
    (log_more app c v.steps s batches v.records has (subst (AreBatchesOf (logged_by c)) (sym first.batch) (out.batch, tt)) first.stand)

-- a file that goes on with their frame, behind its batches
module _ {S : Type 0} (c : Codec S) (log : LogId) (batches : List (List (NamedRecord S))) (records : List (NamedRecord S)) where
  abbrev its_end : Tail
  its_end = after_all (start log) (map (bytes_of (logged_by c)) batches)

  abbrev payload : List ℕ
  payload = bytes_of (logged_by c) records

  both : map (bytes_of (logged_by c)) (batches ++ records ∷ []) ≡ map (bytes_of (logged_by c)) batches ++ payload ∷ []
  both = map-append (bytes_of (logged_by c)) batches (records ∷ [])

  end_more : after its_end payload ≡ after_all (start log) (map (bytes_of (logged_by c)) (batches ++ records ∷ []))
  end_more = sym (after_more (start log) (map (bytes_of (logged_by c)) batches) payload) ∙ ap (after_all (start log)) (sym both)

  file_more : file_of (logged_by c) log batches ++ frame its_end payload ≡ file_of (logged_by c) log (batches ++ records ∷ [])
  file_more =
      append_assoc (header log) (frames (start log) (map (bytes_of (logged_by c)) batches)) (frame its_end payload)
      ∙ ap (λ x. header log ++ x) (frames_more (start log) (map (bytes_of (logged_by c)) batches) payload ∙ ap (frames (start log)) (sym both))

pub writes_log : {S : Type 0} (app : Application S) (c : Codec S) → WritesLog app c
writes_log {S = S} app c log s batches file v w has stands here out = (
  has_more app c s batches v w has stands out,
  record { file = inr (go here.file, refl); tail = ap (λ t. after t p) here.tail ∙ end_more c log batches v.records },
)
  where
    p : List ℕ
    p = bytes_of (logged_by c) v.records

    whole : file_of (logged_by c) log batches ++ frame v.tail p ≡ file_of (logged_by c) log (batches ++ v.records ∷ [])
    whole = ap (λ t. file_of (logged_by c) log batches ++ frame t p) here.tail ∙ file_more c log batches v.records

    go : ((file ≡ []) × (batches ≡ []) × (v.header ≡ Some log)) ⊎ ((file ≡ file_of (logged_by c) log batches) × (v.header ≡ None))
        → file ++ w.bytes.items ≡ file_of (logged_by c) log (batches ++ v.records ∷ [])
    go (inl new) =
        ap (λ x. x ++ w.bytes.items) new.0
        ∙ (out.bytes
        ∙ (ap (λ h. header_of h ++ frame v.tail p) new.2
        ∙ (ap (λ x. x ++ frame v.tail p) (sym (append-nil (header log)))
        ∙ (ap (λ bs. file_of (logged_by c) log bs ++ frame v.tail p) (sym new.1) ∙ whole))))
    go (inr old) =
        ap (λ x. x ++ w.bytes.items) old.0
        ∙ (ap (λ x. file_of (logged_by c) log batches ++ x) (out.bytes ∙ ap (λ h. header_of h ++ frame v.tail p) old.1) ∙ whole)

-- ---- and for a new log that is on its way

items_of : (o : Option (Vec ℕ)) (bytes : List ℕ) → option_map (λ b. b.items) o ≡ Some bytes
    → (elim o as (λ _. List ℕ) [ None ↦ [] | Some b ↦ b.items ]) ≡ bytes
items_of None bytes is = absurd cc
items_of (Some b) bytes is = cc

pub writes_next_log : {S : Type 0} (app : Application S) (c : Codec S) → WritesNextLog app c
writes_next_log {S = S} app c log s batches file v w has stands here out = (
  has_more app c s batches v w has stands out,
  record {
    file =
        ap (λ x. x ++ for_next w) here.file
        ∙ (ap (λ x. file_of (logged_by c) log batches ++ x) wrote ∙ file_more c log batches v.records);
    next = ap (option_map (λ t. after t p)) here.next ∙ ap Some (end_more c log batches v.records);
  },
)
  where
    p : List ℕ
    p = bytes_of (logged_by c) v.records

    wrote : for_next w ≡ frame (after_all (start log) (map (bytes_of (logged_by c)) batches)) p
    wrote = items_of w.next (frame (after_all (start log) (map (bytes_of (logged_by c)) batches)) p)
        (out.next ∙ ap (option_map (λ t. frame t p)) here.next)
