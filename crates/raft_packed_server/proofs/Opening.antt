-- A server that is opened stands for the model's server that starts on the log's disk.
use Rattle.std.proofs.Common.{ℕ, ◌≡◌, ◌∙◌, List, [], ◌∷◌, None, Ok, Err, Option, Some, nat_eq, refl, sym, ap, subst}
use Rattle.std.specs.Borrow.{Bor}
use Rattle.std.specs.Prelude.{MatchResult, Result, if◌then◌else◌, is_ok, map, max}
use Rattle.raft_frames.specs.declared.header.LogId.{LogId}
use Rattle.raft_frames.specs.declared.reading.Log.{Log}
use Rattle.raft_frames.specs.declared.tail.Tail.{Tail}
use Rattle.raft_frames.specs.declared.error.Fault.{Fault}
use Rattle.raft_frames.specs.declared.error.ReadError.{ReadError}
use Rattle.raft_frames.specs.Reading.{Contents, Gives, contents_of, read}
use Rattle.raft_schedule.specs.declared.event.Outcome.{Outcome}
use Rattle.raft_schedule.specs.declared.event.Start.TheVariants.{Bare}
use Rattle.raft_node.specs.declared.act.Act.TheVariants.{Restart}
use Rattle.raft_node.specs.declared.given.Given.{Given}
use Rattle.raft_codec.specs.Codec.{Codec, Refuses}
use Rattle.proof_logs.specs.Batches.{read_in}
use Rattle.proof_packed.specs.Nodes.{of_no_entries}
use Rattle.proof_packed.specs.Stores.{Application, Packed, PackedStore}
use Rattle.raft_packed_wire.specs.raft_packed_node.declared.error.StepError.{StepError}
use Rattle.raft_packed_wire.specs.raft_packed_node.Effects.{nothing_recorded}
use Rattle.raft_packed_wire.specs.declared.record.NamedRecord.{NamedRecord}
use Rattle.raft_packed_wire.specs.declared.record.PackedRecord.{PackedRecord}
use Rattle.raft_packed_wire.specs.Checkpoints.{AreInOrder}
use Rattle.raft_packed_wire.specs.Named.{whole_record}
use Rattle.raft_packed_wire.specs.Records.{packed_on_disk, packed_replayed}
use Rattle.raft_packed_wire.proofs.Standing.{whole_same, wholes, wholes_stand}
use Rattle.proof_packed_servers.specs.Checkpoints.{AreSameDisks}
use Rattle.proof_packed_servers.proofs.Checkpoints.{crashed_alike}
use Rattle.proof_packed_servers.specs.Servers.{PackedDisk, PackedServer, PackedStep, packed_new_disk, packed_started, packed_stopped_node}
use Rattle.proof_packed_servers.specs.Servers.{packed_with_record, packed_with_records}
use Rattle.raft_packed_server.specs.declared.error.OpenError.{OpenError}
use Rattle.raft_packed_server.specs.declared.error.OpenError.TheVariants as errors
use Rattle.raft_packed_server.specs.declared.recovery.Recovery.{Recovery}
use Rattle.raft_packed_server.specs.declared.serving.Serving.{Serving}
use Rattle.raft_packed_server.specs.Logs.{kept_on_disk, logged_by, restored, with_all_named, with_named}
use Rattle.raft_packed_server.specs.Recovery.{GoesOnAt, IsRecovery, IsRefused, OpensOn, Recovers, unstarted}
use Rattle.raft_packed_server.specs.Represents.{Stands}
use Rattle.raft_packed_server.specs.Views.{IsTaken}
use Rattle.raft_packed_server.proofs.Ordered.{replayed_in_order}
use Rattle.raft_packed_server.proofs.Waiting.{stands_alike, takes}

-- a server before its start, on a disk
abbrev before_start : {S : Type 0} → ℕ → PackedDisk S → Option LogId → Tail → Serving S
before_start id d header tail =
    record {
      node = packed_stopped_node id d;
      reserved = d.moment;
      written = None;
      steps = 0;
      records = [];
      outputs = nothing_recorded;
      header = header;
      tail = tail;
      next = None;
    }

module _ {S : Type 0} (app : Application S) where
  -- a start at a moment, or at the greatest of the disk's records, if that is later
  abbrev pub start_step : ℕ → PackedDisk S → PackedStep S
  start_step at d = record { act = Restart Bare; brought = of_no_entries app; at = max at d.moment }

  -- the model's server before its start
  abbrev stopped_on : ℕ → PackedDisk S → PackedServer S
  stopped_on id d = record { node = packed_stopped_node id d; reserved = d.moment; waiting = []; disk = d }

-- what records of a log make of a disk, and what those do that they stand for
module _ {S : Type 0} (app : Application S) where
  pub one_named : (r : NamedRecord S) (d e : PackedDisk S) → packed_on_disk app d.store ≡ packed_on_disk app e.store
      → kept_on_disk app (packed_with_record app (whole_record app d.store r) d) ≡ kept_on_disk app (packed_with_record app (whole_record app e.store r) e)
  one_named r d e same = ap (λ (t : PackedStore S). record { store = t; moment = r.moment }) (whole_same app d.store e.store same r)

  -- a store that is what a record made of another, but for what no start reads
  pub replayed_named : (r : NamedRecord S) (d : PackedDisk S) (t : PackedStore S)
      → packed_on_disk app t ≡ packed_on_disk app (packed_replayed app (whole_record app d.store r) d.store)
      → ◌≡◌ {A = PackedDisk S} (record { store = packed_on_disk app t; moment = r.moment }) (with_named app r (kept_on_disk app d))
  replayed_named r d t made =
      ap (λ (u : PackedStore S). record { store = u; moment = r.moment }) made ∙ sym (one_named r (kept_on_disk app d) d refl)

  all_named : (rs : List (NamedRecord S)) (d : PackedDisk S)
      → with_all_named app rs (kept_on_disk app d) ≡ kept_on_disk app (packed_with_records app (wholes app d.store rs) d)
  all_named [] d = refl
  all_named (r ∷ rs) d =
      ap (with_all_named app rs) (one_named r (kept_on_disk app d) d refl) ∙ all_named rs (packed_with_record app (whole_record app d.store r) d)

  pub named_disk : (rs : List (NamedRecord S)) (d : PackedDisk S) → kept_on_disk app d ≡ with_all_named app rs (packed_new_disk app)
      → AreSameDisks app d (restored app (wholes app (packed_new_disk app).store rs))
  named_disk rs d made =
      let same : kept_on_disk app d ≡ kept_on_disk app (restored app (wholes app (packed_new_disk app).store rs)) =
      made ∙ all_named rs (packed_new_disk app) in
      record { store = ap (λ (e : PackedDisk S). e.store) same; moment = ap (λ (e : PackedDisk S). e.moment) same }

-- a server that starts on a disk stands for the model's, which starts on one that is the same, and goes on where the log ends
module _ {S : Type 0} (app : Application S) (given : Given) (id : ℕ) (at : ℕ) (d : PackedDisk S) (header : Option LogId) (tail : Tail) where
  record Begins (e : PackedDisk S) (after : Serving S) : Type 0 where
    stands : Stands app (packed_started app given id at e) after
    goes_on : GoesOnAt after header tail

  begun : (e : PackedDisk S) (step : PackedStep S) (outcome : Outcome) (begin after : Serving S) → AreSameDisks app d e → AreInOrder 0 d.store.log
      → step ≡ start_step app at d → begin ≡ before_start id d header tail → IsTaken app given step begin outcome after → Begins e after
  begun e step outcome begin after same ordered steps from taken = record {
    stands =
        subst (λ (s : PackedServer S). Stands app s after) (sym (crashed_alike app given id 0 at (stopped_on app id d) e same))
        (stands_alike app (packed_started app given id at d) e after same.store
        (subst (λ (p : Outcome × Serving S). Stands app (packed_started app given id at d) p.1) (sym now.is)
        (takes app given (start_step app at d) now.named (stopped_on app id d) (before_start id d header tail) stopped now.stand)));
    goes_on =
        subst (λ (p : Outcome × Serving S). GoesOnAt p.1 header tail) (sym now.is)
        (record { header = refl; tail = refl; idle = refl; alone = refl });
  }
    where
      now : IsTaken app given (start_step app at d) (before_start id d header tail) outcome after
      now =
          subst (λ x. IsTaken app given x (before_start id d header tail) outcome after) steps
          (subst (λ v. IsTaken app given step v outcome after) from taken)

      stopped : Stands app (stopped_on app id d) (before_start id d header tail)
      stopped = record {
        node = refl;
        reserved = refl;
        waiting = record { steps = refl; records = tt; outputs = refl };
        same = refl;
        ordered = ordered;
      }

-- what was read, where only its error was renamed
pub found_read : {E : Type 0} (P : ReadError → Type 0) (r : Result Log ReadError) (m : Result Log E) (found : Log) (reads : Result Contents Fault)
    → Gives r reads
    → MatchResult r (λ x. m ≡ Ok x) P → is_ok m ≡ is_ok r → m ≡ Ok found → reads ≡ Ok (contents_of found)
found_read P (Ok x) m found reads gives same ok was = let y : x ≡ found = cc in gives ∙ ap (λ log. Ok (contents_of log)) y
found_read P (Err e) m found reads gives same ok was = absurd cc

-- a log of which these frames were read
module _ {S : Type 0} (app : Application S) (c : Codec S) (id : LogId) (log : List ℕ) (found : Log) (payloads : List (Bor (List ℕ)))
    (reads : read id log ≡ Ok (contents_of found)) (same : payloads ≡ found.payloads.items) where
  abbrev found_in : List (Bor (List ℕ)) → List (List ℕ)
  found_in frames = map (λ payload. payload.now) frames

  -- its records are refused
  pub refuses_records : (old new : PackedDisk S) (e : OpenError)
      → Recovers app {A = Unit {0}} (read_in (logged_by c) (found_in payloads)) old (Err e) new → IsRefused app c id log e
  refuses_records old new (errors.Log e) h = absurd h
  refuses_records old new (errors.Record e) h =
      (contents_of found, reads, subst (λ frames. Refuses (read_in (logged_by c) (found_in frames)) e) same h)
  refuses_records old new (errors.Replay e) h = (contents_of found, reads)
  refuses_records old new (errors.Start e) h = absurd h

  -- they are taken
  pub recovers : (named : List (NamedRecord S)) → read_in (logged_by c) (found_in payloads) ≡ Ok named
      → (fresh disk : PackedDisk S) → fresh ≡ packed_new_disk app → kept_on_disk app disk ≡ with_all_named app named (kept_on_disk app fresh)
      → IsRecovery app c id log (record { disk = disk; end = found.end; tail = found.tail })
  recovers named taken fresh disk empty made = record {
    contents = contents_of found;
    named = named;
    holds = record { frames = reads; decoded = ap (λ frames. read_in (logged_by c) (found_in frames)) (sym same) ∙ taken };
    disk = made ∙ ap (λ (d : PackedDisk S). with_all_named app named (kept_on_disk app d)) empty;
    end = refl;
    tail = refl;
  }

module _ {S : Type 0} (app : Application S) (c : Codec S) (given : Given) (id : LogId) (log : List ℕ) (at : ℕ) (r : Recovery S)
    (is : IsRecovery app c id log r) where
  -- the node can't start on what the log gave back
  pub refuses_start : (e : StepError) → IsRefused app c id log (errors.Start e)
  refuses_start e = (is.contents, is.named, is.holds)

  -- it starts on that
  pub opens_on : (step : PackedStep S) (outcome : Outcome) (begin after : Serving S) → step ≡ start_step app at r.disk → begin ≡ unstarted id r
      → IsTaken app given step begin outcome after
      → OpensOn app c given id log at (record { server = record { given = given; serving = Some after }; end = r.end })
  opens_on step outcome begin after steps from taken = record {
    contents = is.contents;
    named = is.named;
    holds = is.holds;
    records = records;
    stand = wholes_stand app (packed_new_disk app).store is.named;
    starts = begins_there.stands;
    end = is.end;
    tail = begins_there.goes_on;
  }
    where
      records : List (PackedRecord (Packed S))
      records = wholes app (packed_new_disk app).store is.named

      header : Option LogId
      header = if nat_eq r.end 0 then Some id else None

      same : AreSameDisks app r.disk (restored app records)
      same = named_disk app is.named r.disk is.disk

      ordered : AreInOrder 0 r.disk.store.log
      ordered =
          subst (λ (t : PackedStore S). AreInOrder 0 t.log) (sym same.store) (replayed_in_order app records (packed_new_disk app) tt)

      begins_there : Begins app given id.node at r.disk header is.contents.tail (restored app records) after
      begins_there =
          begun app given id.node at r.disk header is.contents.tail (restored app records) step outcome begin after same ordered steps
          (from ∙ ap (before_start id.node r.disk header) is.tail) taken
