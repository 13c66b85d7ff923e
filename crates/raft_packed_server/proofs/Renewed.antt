-- A server goes on with a new log.
use Rattle.std.proofs.Common.{ℕ, ◌≡◌, ◌≤◌, ◌∙◌, ◌++◌, List, [], ◌∷◌, length, refl, sym, ap, subst, append_assoc, inr}
use Rattle.std.specs.Prelude.{None, Option, Some, map}
use Rattle.std.proofs.lemmas.List.{append-nil}
use Rattle.raft_frames.specs.declared.header.LogId.{LogId}
use Rattle.raft_frames.specs.declared.tail.Tail.{Tail}
use Rattle.raft_frames.specs.Format.{after, after_all, frame, header, start}
use Rattle.raft_frames.specs.Laws.{IsPayload}
use Rattle.raft_codec.specs.Codec.{Codec, IsCodec}
use Rattle.proof_logs.specs.Batches.{bytes_of}
use Rattle.raft_packed_server.specs.Fits.{FitFrom, FitsAt}
use Rattle.proof_packed.specs.Stores.{Application}
use Rattle.raft_packed_wire.specs.Checkpoints.{checkpoint, named_rest, named_snapshot}
use Rattle.raft_packed_wire.specs.declared.record.NamedRecord.{NamedRecord}
use Rattle.raft_packed_wire.specs.Named.{StandFor}
use Rattle.raft_packed_wire.specs.Records.{packed_on_disk}
use Rattle.raft_packed_wire.proofs.Checkpoints.{order_restores}
use Rattle.raft_packed_wire.proofs.Standing.{none_stand}
use Rattle.proof_packed_servers.specs.Checkpoints.{packed_checkpointed, packed_left_by}
use Rattle.proof_packed_servers.specs.Servers.{PackedDisk, PackedServer, packed_new_disk, packed_with_records}
use Rattle.raft_packed_server.specs.declared.batch.NewLog.{NewLog}
use Rattle.raft_packed_server.specs.declared.serving.Serving.{Serving}
use Rattle.raft_packed_server.specs.Checkpoints.{IsClear, IsFirstFrame, IsNewLog, NewLogsAreGivenUp, NewLogsGoOn, NewLogsTakeOver, behind_first}
use Rattle.raft_packed_server.specs.Checkpoints.{first_batches, with_log_at, with_next_log}
use Rattle.raft_packed_server.specs.Laws.{IsAtEnd}
use Rattle.raft_packed_server.specs.Logs.{left_by, logged_by}
use Rattle.raft_packed_server.specs.Represents.{AreUnwritten, AreWaiting, Stands}
use Rattle.raft_packed_server.proofs.Coded.{logged_by_is, some_bytes}
use Rattle.raft_packed_server.proofs.Waiting.{stands_placed, unwritten}

pub new_logs_go_on : {S : Type 0} (app : Application S) (c : Codec S) → NewLogsGoOn app c
new_logs_go_on {S = S} app c log s v w stands new = record {
  waits = none_left;
  old = stands_placed app v.header v.tail (Some (behind_first c log v)) s v stands;
  stands = record {
    node = stands.node;
    reserved = stands.reserved;
    waiting = subst (λ o. AreWaiting app o there (with_next_log c log v) s.waiting) (sym new.clear.0)
        (record { steps = are.steps; records = empty; outputs = are.outputs });
    same =
        ap (λ rs. packed_on_disk app (packed_with_records app rs there).store) none_left
        ∙ order_restores app s.reserved s.node.store stands.ordered;
    ordered = stands.ordered;
  };
  has = record {
    writable = new.batches;
    records = checkpoint v.reserved v.node.store;
    stand = (record { moment = refl; began = tt; changes = refl }, (record { moment = refl; began = tt; changes = refl }, tt));
    disk = sym made;
  };
  ends = record { file = new.bytes; next = refl };
}
  where
    there : PackedDisk S
    there = packed_with_records app (checkpoint s.reserved s.node.store) (packed_new_disk app)

    are : AreUnwritten app s.disk v s.waiting
    are = unwritten app s v new.clear.0 stands

    none_left : packed_left_by s.waiting ≡ []
    none_left = none_stand app s.disk.store (left_by s.waiting) (subst (λ rs. StandFor app s.disk.store rs (left_by s.waiting)) new.clear.1 are.records)

    empty : StandFor app there.store v.records (left_by s.waiting)
    empty =
        subst (StandFor app there.store v.records) (sym none_left) (subst (λ rs. StandFor app there.store rs []) (sym new.clear.1) tt)

    made : packed_with_records app (checkpoint v.reserved v.node.store) (packed_new_disk app)
        ≡ packed_with_records app (checkpoint s.reserved s.node.store) (packed_new_disk app)
    made = λ i. packed_with_records app (checkpoint (stands.reserved i) (stands.node i).store) (packed_new_disk app)

some_same : {A : Type 0} (x y : A) → ◌≡◌ {A = Option A} (Some x) (Some y) → x ≡ y
some_same x y is = cc

pub new_logs_take_over : {S : Type 0} (app : Application S) (c : Codec S) → NewLogsTakeOver app c
new_logs_take_over app c log s batches file v end new stands ends took =
    let is : new ≡ with_log_at took.place v = some_same new (with_log_at took.place v) took.rest in
    let place : took.place ≡ after_all (start log) (map (bytes_of (logged_by c)) batches) =
    some_same took.place (after_all (start log) (map (bytes_of (logged_by c)) batches)) (sym took.next ∙ ends.next) in (
      subst (Stands app s) (sym is) (stands_placed app None took.place None s v stands),
      subst (IsAtEnd c log batches file) (sym is) (record { file = inr (ends.file, refl); tail = place }),
    )

pub new_logs_are_given_up : {S : Type 0} (app : Application S) (c : Codec S) → NewLogsAreGivenUp app c
new_logs_are_given_up app c s v stands = stands_placed app v.header v.tail None s v stands

-- its disk is the old one, but for what no start reads
pub checkpoint_alike : {S : Type 0} (app : Application S) (s : PackedServer S) (v : Serving S) → Stands app s v → packed_left_by s.waiting ≡ []
    → packed_on_disk app s.disk.store ≡ packed_on_disk app (packed_checkpointed app s).disk.store
checkpoint_alike app s v stands none =
    sym (ap (λ rs. packed_on_disk app (packed_with_records app rs s.disk).store) none)
    ∙ (stands.same ∙ sym (order_restores app s.reserved s.node.store stands.ordered))

-- ---- its bytes

-- a record's bytes, alone in a payload
pub one_record : (old new bytes : List ℕ) → old ≡ [] → new ≡ old ++ bytes → new ≡ bytes ++ []
one_record old new bytes none wrote = wrote ∙ (ap (λ l. l ++ bytes) none ∙ sym (append-nil bytes))

-- what stands before a state, and the state, are a record alone in a payload
pub one_front : (old new state bytes : List ℕ) → old ≡ [] → new ++ state ≡ old ++ bytes → new ++ state ≡ bytes ++ []
one_front old new state bytes none wrote = one_record old (new ++ state) bytes none wrote

-- a first frame whose payload is left, and one of which nothing is left
pub first_left : (log : LogId) (payload head front : List ℕ) (place tail : Tail) → IsPayload payload → head ≡ header log → place ≡ start log
    → front ++ payload ≡ head ++ frame place payload → tail ≡ after place payload → IsFirstFrame log payload front payload tail
first_left log payload head front place tail there is at wrote behind = record {
  fits = there;
  bytes = wrote ∙ (λ i. is i ++ frame (at i) payload);
  place = behind ∙ ap (λ t. after t payload) at;
}

pub first_whole : (log : LogId) (payload head front : List ℕ) (place tail : Tail) → IsPayload payload → head ≡ header log → place ≡ start log
    → front ≡ head ++ frame place payload → tail ≡ after place payload → IsFirstFrame log payload front [] tail
first_whole log payload head front place tail there is at wrote behind = record {
  fits = there;
  bytes = append-nil front ∙ (wrote ∙ (λ i. is i ++ frame (at i) payload));
  place = behind ∙ ap (λ t. after t payload) at;
}

-- a record that fits has some bytes
pub some_record : {S : Type 0} (c : Codec S) → IsCodec c → (r : NamedRecord S) → 1 ≤ length (bytes_of (logged_by c) (r ∷ []))
some_record c is r = some_bytes (logged_by c) (logged_by_is c is) (r ∷ []) (λ e. cc)

-- the pieces of a new log, and two frames behind its header
pieces_joined : (front snapshot rest head first second : List ℕ) → front ++ snapshot ≡ head ++ first → rest ≡ [] ++ second
    → front ++ (snapshot ++ rest) ≡ head ++ (first ++ (second ++ []))
pieces_joined front snapshot rest head first second one two =
    sym (append_assoc front snapshot rest)
    ∙ ((λ i. one i ++ two i) ∙ (append_assoc head first second ∙ ap (λ l. head ++ (first ++ l)) (sym (append-nil second))))

-- what is handed out, and what is left of the server, are as the definition says
pub begun : {S : Type 0} (c : Codec S) (log : LogId) (v : Serving S) (w : NewLog) (payload : List ℕ) (first tail : Tail) → IsClear v
    → IsFirstFrame log (bytes_of (logged_by c) (named_snapshot v.node.store ∷ [])) w.front.items w.snapshot.items first
    → (logged_by c).fits (named_snapshot v.node.store)
    → payload ≡ bytes_of (logged_by c) (named_rest v.reserved v.node.store ∷ [])
    → (logged_by c).fits (named_rest v.reserved v.node.store)
    → IsPayload payload
    → w.rest.items ≡ [] ++ frame first payload
    → tail ≡ after first payload
    → w.end ≡ tail.position
    → IsNewLog c log v w × ◌≡◌ {A = Option (Serving S)} (Some (record v { next = Some tail })) (Some (with_next_log c log v))
begun {S = S} c log v w payload first tail clear one fits is rest_fits there wrote behind end = (
  record {
    clear = clear;
    batches = (record { fits = (fits, tt); payload = one.fits }, (record { fits = (rest_fits, tt); payload = subst IsPayload is there }, tt));
    bytes =
        pieces_joined w.front.items w.snapshot.items w.rest.items (header log) (frame (start log) p) (frame first payload) one.bytes wrote
        ∙ (λ i. header log ++ (frame (start log) p ++ (frame (one.place i) (is i) ++ [])));
    end = end ∙ ap (λ (t : Tail). t.position) place;
  },
  λ i. Some (record v { next = Some (place i) }),
)
  where
    p : List ℕ
    p = bytes_of (logged_by c) (named_snapshot v.node.store ∷ [])

    place : tail ≡ behind_first c log v
    place = behind ∙ (λ i. after (one.place i) (is i))

-- both frames fit: so the second does, behind the first
pub second_fits : {S : Type 0} (c : Codec S) (log : LogId) (v : Serving S) (payload : List ℕ) (first : Tail)
    → first ≡ after (start log) (bytes_of (logged_by c) (named_snapshot v.node.store ∷ []))
    → payload ≡ bytes_of (logged_by c) (named_rest v.reserved v.node.store ∷ [])
    → FitFrom (start log) (map (bytes_of (logged_by c)) (first_batches v)) → FitsAt first payload
second_fits c log v payload first at is fit = subst (λ t. FitsAt t payload) (sym at) (subst (FitsAt _) (sym is) fit.1.0)
