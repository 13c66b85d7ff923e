-- What a crash leaves of a file is opened.
use Rattle.std.proofs.Common.{ℕ, ◌≡◌, ◌≢◌, ◌≤◌, ◌∙◌, Bool, List, [], ◌++◌, length, take, replicate, None, Ok, Some, refl, sym, ap, subst, arith, inl}
use Rattle.std.proofs.Common.{inr, nat_eq}
use Rattle.std.specs.Prelude.{◌⊎◌, Option, Result, if◌then◌else◌, map}
use Rattle.std.specs.List.{AllByRecursion}
use Rattle.std.proofs.lemmas.Bool.{cases_eq, eq-eqb, ne_eqb}
use Rattle.std.proofs.lemmas.List.{length-append}
use Rattle.raft_frames.specs.declared.header.LogId.{LogId}
use Rattle.raft_frames.specs.Format.{frames, header, start}
use Rattle.raft_frames.specs.Laws.{IsByte, file}
use Rattle.raft_frames.specs.Reading.{Contents}
use Rattle.raft_frames.proofs.Bytes.{all-append}
use Rattle.raft_frames.proofs.Spelled.{bytes_take, spelled}
use Rattle.raft_node.specs.declared.given.Given.{Given}
use Rattle.raft_codec.specs.Codec.{Codec, IsCodec}
use Rattle.proof_logs.specs.BatchLaws.{IsCutOf, Leaves, ReadsByChanceOf, cut_of}
use Rattle.proof_logs.specs.Batches.{IsFileOf, all_of, bytes_of, file_of, one_batch, read_in}
use Rattle.proof_logs.proofs.Cuts.{cuts_leave, filled_cuts_leave}
use Rattle.proof_logs.proofs.Files.{are_payloads, file_bytes, zeros_bytes}
use Rattle.proof_logs.proofs.Records.{batches_join}
use Rattle.proof_packed.specs.Stores.{Application}
use Rattle.raft_packed_wire.specs.declared.record.NamedRecord.{NamedRecord}
use Rattle.raft_packed_wire.proofs.Standing.{wholes}
use Rattle.proof_packed_servers.specs.Servers.{PackedServer, packed_flushed_first, packed_new_disk, packed_started, packed_with_records}
use Rattle.raft_packed_server.specs.declared.server.Opened.{Opened}
use Rattle.raft_packed_server.specs.declared.serving.Serving.{Serving}
use Rattle.raft_packed_server.specs.Laws.{IsAtEnd, IsCut, OpensAfterCuts, OpensAfterZeros, OpensCrashed, cut_file}
use Rattle.raft_packed_server.specs.Logs.{HasLog, logged_by, restored}
use Rattle.raft_packed_server.specs.Recovery.{GoesOn, GoesOnAt, OpensOn}
use Rattle.raft_packed_server.specs.Represents.{Represents}
use Rattle.raft_packed_server.proofs.Coded.{logged_by_is}
use Rattle.raft_packed_server.proofs.Logged.{log_more}
use Rattle.raft_packed_server.proofs.Waiting.{stand_makes}

ok_same : {A E : Type 0} (x y : A) → ◌≡◌ {A = Result A E} (Ok x) (Ok y) → x ≡ y
ok_same x y e = cc

-- a file has a header
file_long : (log : LogId) (payloads : List (List ℕ)) → 32 ≤ length (file log payloads)
file_long log payloads = omega (arith, length-append (header log) (frames (start log) payloads))

module _ {S : Type 0} (app : Application S) (c : Codec S) (given : Given) (log : LogId) (k at : ℕ)
    (s : PackedServer S) (batches : List (List (NamedRecord S))) (next : List (NamedRecord S)) (n : ℕ)
    (cut : IsCut app c log k s batches next n) (bytes : List ℕ) (o : Opened S) (each : AllByRecursion IsByte bytes)
    (l : Leaves (logged_by c) log batches next bytes) (is : OpensOn app c given log bytes at o) where
  same : is.contents ≡ l.found.contents
  same = ok_same is.contents l.found.contents (sym is.holds.frames ∙ l.found.holds.frames)

  same_named : is.named ≡ all_of l.left
  same_named = ok_same is.named (all_of l.left)
      (sym is.holds.decoded ∙ (ap (λ (x : Contents). read_in (logged_by c) x.payloads) same ∙ l.found.holds.decoded))

  kept_file : IsFileOf (logged_by c) log l.left (take o.end bytes)
  kept_file = subst (λ i. IsFileOf (logged_by c) log l.left (take i bytes)) (sym (is.end ∙ ap (λ (x : Contents). x.end) same)) l.kept

  -- a file of which nothing is kept ends at 0
  none_kept : take o.end bytes ≡ [] → o.end ≢ 0 → ⊥
  none_kept none more = go (spelled log bytes is.contents each is.holds.frames).end
    where
      go : ((is.contents.end ≡ 0) × (is.contents.payloads ≡ []))
          ⊎ ((is.contents.end ≡ is.contents.tail.position) × (take is.contents.end bytes ≡ file log is.contents.payloads))
          → ⊥
      go (inl new) = more (is.end ∙ new.0)
      go (inr old) =
          let long : take o.end bytes ≡ file log is.contents.payloads = ap (λ i. take i bytes) is.end ∙ old.1 in
          absurd (omega (arith, file_long log is.contents.payloads, ap length long, ap length none))

  place : (v : Serving S) → IsFileOf (logged_by c) log l.left (take o.end bytes) → (o.end ≡ 0) ⊎ (o.end ≢ 0)
      → v.header ≡ (if nat_eq o.end 0 then Some log else None)
      → ((take o.end bytes ≡ []) × (l.left ≡ []) × (v.header ≡ Some log))
      ⊎ ((take o.end bytes ≡ file_of (logged_by c) log l.left) × (v.header ≡ None))
  place v (inl none) (inl zero) h = inl (none.0, none.1, h ∙ ap (λ (b : Bool). if b then Some log else None) (eq-eqb o.end 0 zero))
  place v (inl none) (inr more) h = absurd (none_kept none.0 more)
  place v (inr all) (inl zero) h =
      let none : take o.end bytes ≡ [] = ap (λ i. take i bytes) zero in
      absurd (omega (arith, file_long log (map (bytes_of (logged_by c)) l.left), ap length all, ap length none))
  place v (inr all) (inr more) h = inr (all, h ∙ ap (λ (b : Bool). if b then Some log else None) (ne_eqb o.end 0 more))

  goes : (v : Serving S) → o.server.serving ≡ Some v → GoesOnAt v (if nat_eq o.end 0 then Some log else None) is.contents.tail
  goes v serves = subst (λ (x : Option (Serving S)). GoesOn x (if nat_eq o.end 0 then Some log else None) is.contents.tail) serves is.tail

  ends : (v : Serving S) → o.server.serving ≡ Some v → IsAtEnd c log l.left (take o.end bytes) v
  ends v serves = record {
    file = place v kept_file (cases_eq o.end 0) (goes v serves).header;
    tail = (goes v serves).tail ∙ (ap (λ (x : Contents). x.tail) same ∙ l.found.tail);
  }

  -- with as many records on disk as make the batches that are left
  opened_with : (survive : ℕ) → (survive ≡ 0) ⊎ (survive ≡ k) → HasLog app c (packed_flushed_first app survive s) l.left
      → OpensCrashed app c given log k at s bytes o
  opened_with survive whole has = record {
    survive = survive;
    whole = whole;
    batches = l.left;
    has = record { writable = has.writable; records = has.records; stand = has.stand; disk = has.disk };
    stands =
        subst (λ (t : PackedServer S). Represents app t o.server) (ap (packed_started app given log.node at) (made ∙ sym has.disk)) is.starts;
    goes_on = ends;
    idle = λ v serves. (goes v serves).idle;
  }
    where
      made : restored app is.records ≡ restored app has.records
      made =
          stand_makes app is.named is.records (packed_new_disk app) is.stand
          ∙ (ap (λ rs. packed_with_records app (wholes app (packed_new_disk app).store rs) (packed_new_disk app)) same_named
          ∙ sym (stand_makes app (all_of l.left) has.records (packed_new_disk app) has.stand))

  opened_after : OpensCrashed app c given log k at s bytes o
  opened_after = go l.whole
    where
      go : (l.left ≡ batches) ⊎ (l.left ≡ batches ++ one_batch next) → OpensCrashed app c given log k at s bytes o
      go (inl none) = opened_with 0 (inl refl) (subst (HasLog app c s) (sym none) cut.has)
      go (inr all) =
          opened_with k (inr refl)
          (subst (HasLog app c (packed_flushed_first app k s)) (sym all) (log_more app c k s batches next cut.has cut.file.more cut.stand))

-- what is left is bytes
left_bytes : {R : Type 0} (c : Codec R) (log : LogId) (batches : List (List R)) (next : List R) (n : ℕ) → IsCutOf c log batches next n
    → AllByRecursion IsByte (cut_of c log batches next n)
left_bytes c log batches next n cut =
    bytes_take n (file_of c log (batches ++ one_batch next))
    (file_bytes log (map (bytes_of c) (batches ++ one_batch next))
    (are_payloads c (batches ++ one_batch next) (batches_join c batches (one_batch next) cut.writable cut.more)))

module _ {S : Type 0} (app : Application S) (c : Codec S) (inverse : IsCodec c) where
  pub opens_after_cuts : OpensAfterCuts app c
  opens_after_cuts given log k at s batches next n o cut is =
      opened_after app c given log k at s batches next n cut (cut_file app c log batches next n) o
      (left_bytes (logged_by c) log batches next n cut.file)
      (cuts_leave (logged_by c) (logged_by_is c inverse) log batches next n cut.file) is

  pub opens_after_zeros : OpensAfterZeros app c
  opens_after_zeros given log k at s batches next n zeros o cut is =
      go (filled_cuts_leave (logged_by c) (logged_by_is c inverse) log batches next n zeros cut.file)
    where
      filled : List ℕ
      filled = cut_file app c log batches next n ++ replicate zeros 0

      go : Leaves (logged_by c) log batches next filled
          ⊎ ReadsByChanceOf (logged_by c) log batches next filled
          → OpensCrashed app c given log k at s filled o ⊎ ReadsByChanceOf (logged_by c) log batches next filled
      go (inl l) =
          inl (opened_after app c given log k at s batches next n cut filled o
          (all-append (cut_file app c log batches next n) (replicate zeros 0)
          (left_bytes (logged_by c) log batches next n cut.file) (zeros_bytes zeros)) l is)
      go (inr chance) = inr chance
