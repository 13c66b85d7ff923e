-- A machine has a server, packed, whatever its calls do to both.
use Rattle.std.proofs.Common.{ℕ, ◌≡◌, ◌∙◌, Bool, List, [], ◌∷◌, ◌++◌, length, take, drop, None, Some, refl, sym, ap, subst, append_assoc, arith}
use Rattle.std.proofs.Common.{inl, inr, ⊎_elim}
use Rattle.std.specs.Prelude.{◌⊎◌, IfSome, Option, true, if◌then◌else◌}
use Rattle.std.specs.Option.{option_map}
use Rattle.std.proofs.lemmas.Bool.{le-leb}
use Rattle.std.proofs.lemmas.List.{append-nil, length-append, take_at, take-append-drop, take-append-le}
use Rattle.raft_frames.specs.declared.header.LogId.{LogId}
use Rattle.raft_frames.specs.declared.tail.Tail.{Tail}
use Rattle.std.specs.Global.{Vec}
use Rattle.raft_node.specs.declared.given.Given.{Given}
use Rattle.raft_codec.specs.Codec.{Codec, IsCodec}
use Rattle.proof_requests.specs.proof_logs.Batches.{AreBatchesOf, IsFileOf, bytes_of as bytes_of_batch, file_of, one_batch}
use Rattle.raft_frames.specs.Format.{after}
use Rattle.proof_requests.specs.proof_logs.Files.{log_of}
use Rattle.proof_packed.specs.Nodes.{PackedRecords}
use Rattle.proof_packed.specs.Stores.{Application}
use Rattle.proof_packed.specs.Nodes.{packed_new_node}
use Rattle.raft_packed_wire.specs.raft_packed_node.Effects.{nothing_recorded}
use Rattle.raft_packed_wire.specs.declared.record.NamedRecord.{NamedRecord}
use Rattle.raft_packed_wire.specs.Named.{StandFor}
use Rattle.raft_packed_wire.proofs.Standing.{stand_same}
use Rattle.proof_requests.specs.proof_packed_servers.Checkpoints.{AreSameDisks, packed_checkpointed, packed_left_by}
use Rattle.proof_requests.specs.proof_packed_servers.Servers.{PackedDisk, PackedServer, PackedStep, PackedWaitingStep, packed_crashed, packed_flushed_first, packed_new_disk}
use Rattle.proof_requests.specs.proof_packed_servers.Servers.{packed_waiting_step, packed_with_step}
use Rattle.proof_requests.specs.raft_packed_server.declared.batch.Batch.{Batch}
use Rattle.proof_requests.specs.raft_packed_server.declared.batch.Written.{Written}
use Rattle.proof_requests.specs.raft_packed_server.declared.server.Opened.{Opened}
use Rattle.proof_requests.specs.raft_packed_server.declared.serving.Serving.{Serving}
use Rattle.proof_requests.specs.raft_packed_server.Checkpoints.{GoesOnBesideNewLog, TakesOver, first_batches, with_log_at, with_next_log, without_next_log}
use Rattle.proof_requests.specs.raft_packed_server.Laws.{IsAtEnd, IsAtNextEnd, OpensCrashed, cut_file}
use Rattle.proof_requests.specs.raft_packed_server.Logs.{HasLog, first_records, left_by, logged_by}
use Rattle.proof_requests.specs.raft_packed_server.Recovery.{OpensOn}
use Rattle.proof_requests.specs.raft_packed_server.Represents.{HandsOut, IsHandedOut, Represents, Stands, StandsFor, said_by}
use Rattle.proof_requests.specs.raft_packed_server.Views.{IsWithTaken, ServerView, batch_released, is_flushed, released, steps_flushed, steps_released, with_batch, with_taken}
use Rattle.proof_requests.proofs.raft_packed_server_proofs.Crashed.{opens_after_cuts}
use Rattle.proof_requests.proofs.raft_packed_server_proofs.Logged.{AreFirst, first_is, log_more, writes_log, writes_next_log}
use Rattle.proof_requests.proofs.raft_packed_server_proofs.Renewed.{new_logs_are_given_up, new_logs_go_on, new_logs_take_over}
use Rattle.proof_requests.proofs.raft_packed_server_proofs.Waiting.{IsBeside, at_end_beside, handed_out, released_records, rest_beside, stands_alike, takes}
use Rattle.proof_requests.specs.raft_core.declared.driver.OpenedCore.{OpenedCore}
use Rattle.proof_requests.specs.raft_core.raft_peers.declared.output.Output.{Output}
use Rattle.proof_requests.specs.raft_core.Calls.{GivesUpLog}
use Rattle.proof_requests.specs.raft_core.Views.{CoreView}
use Rattle.raft_cluster.specs.declared.machine.Handed.{Handed}
use Rattle.raft_cluster.specs.declared.machine.Machine.{Machine}
use Rattle.raft_cluster.specs.Calls.{ByNewLog, ByTakeOver}
use Rattle.raft_cluster.specs.Disks.{bytes_of, flushed, flushed_beside, next_bytes_of, next_of, torn}
use Rattle.raft_cluster.specs.Servers.{Batches, GoesOn, GoesOnBehind, HasNext, HasServer, IsStored, Runs, Serves, ServesNext, batch_on_way, log_on, server_in}
use Rattle.raft_cluster.proofs.Alike.{flushed_alike, flushed_but}

-- bytes that were handed out
abbrev pub handed : Written → Handed
handed w = record { bytes = w.bytes.items; end = w.end; next = option_map (λ b. b.items) w.next }

-- ---- disks

module _ {S : Type 0} (app : Application S) (codec : Codec S) where
  -- a server goes on at the end of a file
  at_file : (log : LogId) (batches : Batches S) (disk : List ℕ) (v : Serving S) → IsAtEnd codec log batches disk v → IsFileOf (logged_by codec) log batches disk
  at_file log batches disk v ends = go ends.file
    where
      go : ((disk ≡ []) × (batches ≡ []) × (v.header ≡ Some log)) ⊎ ((disk ≡ file_of (logged_by codec) log batches) × (v.header ≡ None)) → IsFileOf (logged_by codec) log batches disk
      go (inl new) = inl (new.0, new.1)
      go (inr old) = inr old.0

  -- a disk that has a file, and nothing else, while nothing is on its way
  pub filed : (log : LogId) (s : PackedServer S) (batches : Batches S) (disk : List ℕ) → HasLog app codec s batches → IsFileOf (logged_by codec) log batches disk → IsStored app codec log s batches [] 0 disk []
  filed log s batches disk has is = go is
    where
      made : (rest : List ℕ) → file_of (logged_by codec) log batches ≡ disk ++ rest → IsStored app codec log s batches [] 0 disk []
      made rest front = record {
        within = omega arith;
        cut = record { has = has; stand = tt; file = record { writable = has.writable; more = tt; file = disk; is = is; there = omega arith } };
        rest = rest;
        front = ap (file_of (logged_by codec) log) (append-nil batches) ∙ (front ∙ ap (λ d. d ++ rest) (sym (append-nil disk)));
      }

      go : IsFileOf (logged_by codec) log batches disk → IsStored app codec log s batches [] 0 disk []
      go (inl new) = made (file_of (logged_by codec) log batches) (ap (λ d. d ++ file_of (logged_by codec) log batches) (sym new.0))
      go (inr old) = made [] (sym old ∙ sym (append-nil disk))

  -- some of what is on its way comes on disk, and the rest is lost
  pub spilled : (log : LogId) (s : PackedServer S) (batches : Batches S) (next : List (NamedRecord S)) (k : ℕ) (disk way there lost : List ℕ)
      → way ≡ there ++ lost → IsStored app codec log s batches next k disk way → IsStored app codec log s batches next k (disk ++ there) []
  spilled log s batches next k disk way there lost parts is = record {
    within = is.within;
    cut = record {
      has = is.cut.has;
      stand = is.cut.stand;
      file = record {
        writable = is.cut.file.writable;
        more = is.cut.file.more;
        file = is.cut.file.file;
        is = is.cut.file.is;
        there = omega (arith, is.cut.file.there, length-append disk there);
      };
    };
    rest = lost ++ is.rest;
    front =
        is.front
        ∙ (ap (λ w. (disk ++ w) ++ is.rest) parts
        ∙ (ap (λ w. w ++ is.rest) (sym (append_assoc disk there lost))
        ∙ (append_assoc (disk ++ there) lost is.rest
        ∙ ap (λ d. d ++ (lost ++ is.rest)) (sym (append-nil (disk ++ there))))));
  }

  -- what is on disk is the file with the batch that is being written, cut where the disk ends
  cut_is : (log : LogId) (s : PackedServer S) (batches : Batches S) (next : List (NamedRecord S)) (k : ℕ) (disk way : List ℕ)
      → IsStored app codec log s batches next k disk way → cut_file app codec log batches next (length disk) ≡ disk
  cut_is log s batches next k disk way is =
      ap (take (length disk)) (is.front ∙ append_assoc disk way is.rest) ∙ take_at disk (way ++ is.rest) (length disk) refl

  -- ---- a server that is made

  pub made : (given : Given) (m : Machine S) → m.core ≡ None → m.written ≡ None → m.disk.items ≡ []
      → HasServer app codec given (record { node = packed_new_node app given.settings m.id; reserved = 0; waiting = []; disk = packed_new_disk app }) m
  made given m closed none empty = record {
    batches = [];
    next = [];
    k = 0;
    stored = subst (λ (w : Option Handed). IsStored app codec (log_on m) fresh [] [] 0 m.disk.items (bytes_of w)) (sym none)
        (filed (log_on m) fresh [] m.disk.items (record { writable = tt; records = []; stand = tt; disk = refl }) (inl (empty, refl)));
    runs = subst (λ (c : Option (CoreView S)). Runs app codec given (log_on m) fresh [] [] 0 m.disk.items m.written (server_in c)) (sym closed) none;
    named = subst (λ (c : Option (CoreView S)). IfSome c (λ x. x.id ≡ m.id)) (sym closed) tt;
    beside = subst (λ (c : Option (CoreView S)). IfSome c (λ x. ServesNext app codec (log_on m) fresh (batch_on_way m.written []) (flushed_beside m) x.server.serving)) (sym closed) tt;
  }
    where
      fresh : PackedServer S
      fresh = record { node = packed_new_node app given.settings m.id; reserved = 0; waiting = []; disk = packed_new_disk app }

  -- ---- the calls of a machine

  module _ (given : Given) (s : PackedServer S) (m : Machine S) (is : HasServer app codec given s m) where
    abbrev log : LogId
    log = log_on m

    abbrev disk : List ℕ
    disk = m.disk.items

    abbrev way : List ℕ
    way = bytes_of m.written

    runs_on : (core : CoreView S) → m.core ≡ Some core → Runs app codec given log s is.batches is.next is.k disk m.written (Some core.server)
    runs_on core is_open = subst (λ (c : Option (CoreView S)). Runs app codec given log s is.batches is.next is.k disk m.written (server_in c)) is_open is.runs

    named_on : (core : CoreView S) → m.core ≡ Some core → core.id ≡ m.id
    named_on core is_open = subst (λ (c : Option (CoreView S)). IfSome c (λ x. x.id ≡ m.id)) is_open is.named

    next_on : (core : CoreView S) → m.core ≡ Some core → ServesNext app codec log s (batch_on_way m.written is.next) (flushed_beside m) core.server.serving
    next_on core is_open =
        subst (λ (c : Option (CoreView S)). IfSome c (λ x. ServesNext app codec log s (batch_on_way m.written is.next) (flushed_beside m) x.server.serving)) is_open is.beside

    -- nothing is done at the server
    pub recored : (core new : CoreView S) → m.core ≡ Some core → new.server ≡ core.server → new.id ≡ core.id → HasServer app codec given s (record m { core = Some new })
    recored core new is_open same same_id = record {
      batches = is.batches;
      next = is.next;
      k = is.k;
      stored = is.stored;
      runs = subst (λ (v : ServerView S). Runs app codec given log s is.batches is.next is.k disk m.written (Some v)) (sym same) (runs_on core is_open);
      named = same_id ∙ named_on core is_open;
      beside = subst (λ (v : ServerView S). ServesNext app codec log s (batch_on_way m.written is.next) (flushed_beside m) v.serving) (sym same) (next_on core is_open);
    }

    -- a step is taken
    module _ (step : PackedStep S) where
      abbrev next : PackedServer S
      next = packed_with_step app given step s

      abbrev waits : PackedWaitingStep S
      waits = packed_waiting_step app given s.reserved s.node step

      same_first : first_records is.k (s.waiting ++ waits ∷ []) ≡ first_records is.k s.waiting
      same_first = ap left_by (take-append-le is.k s.waiting (waits ∷ []) is.stored.within)

      stored_more : IsStored app codec log next is.batches is.next is.k disk way
      stored_more = record {
        within = omega (arith, is.stored.within, length-append s.waiting (waits ∷ []));
        cut = record {
          has = record {
            writable = is.stored.cut.has.writable;
            records = is.stored.cut.has.records;
            stand = is.stored.cut.has.stand;
            disk = is.stored.cut.has.disk;
          };
          stand = subst (StandFor app s.disk.store is.next) (sym same_first) is.stored.cut.stand;
          file = is.stored.cut.file;
        };
        rest = is.stored.rest;
        front = is.stored.front;
      }

      goes_more : (v : Serving S) (named : List (NamedRecord S)) (w : Option Handed) → GoesOn codec log is.batches is.next is.k disk w v
          → GoesOn codec log is.batches is.next is.k disk w (with_taken app given step named v)
      goes_more v named None goes = record { idle = goes.idle; at_end = record { file = goes.at_end.file; tail = goes.at_end.tail } }
      goes_more v named (Some w) goes = record {
        batch = goes.batch;
        is = goes.is;
        steps = goes.steps;
        end = goes.end;
        at_end = record { file = goes.at_end.file; tail = goes.at_end.tail };
      }

      serves_more : (o p : Option (Serving S)) → IsWithTaken app given step o p → Serves app codec log s is.batches is.next is.k disk m.written o
          → Serves app codec log next is.batches is.next is.k disk m.written p
      serves_more None p taken serves = subst (Serves app codec log next is.batches is.next is.k disk m.written) (sym taken) tt
      serves_more (Some v) p taken serves =
          subst (Serves app codec log next is.batches is.next is.k disk m.written) (sym taken.1.1)
          (takes app given step taken.0 s v serves.0 taken.1.0, goes_more v taken.0 m.written serves.1)

      next_more : (v : Serving S) (named : List (NamedRecord S)) (more : Batches S) (file : List ℕ) → HasNext app codec log s more file v
          → HasNext app codec log next more file (with_taken app given step named v)
      next_more v named more file n = record {
        disk = n.disk;
        same = record { store = n.same.store; moment = n.same.moment };
        batches = n.batches;
        has = record { writable = n.has.writable; records = n.has.records; stand = n.has.stand; disk = n.has.disk };
        at_end = record { file = n.at_end.file; next = n.at_end.next };
      }

      beside_more : (more : Batches S) (file : List ℕ) (o p : Option (Serving S)) → IsWithTaken app given step o p → ServesNext app codec log s more file o
          → ServesNext app codec log next more file p
      beside_more more file None p taken n = subst (ServesNext app codec log next more file) (sym taken) tt
      beside_more more file (Some v) p taken n =
          subst (ServesNext app codec log next more file) (sym taken.1.1)
          (⊎_elim (λ (none : v.next ≡ None). let is : (v.next ≡ None) ⊎ HasNext app codec log next more file (with_taken app given step taken.0 v) = inl none in is)
          (λ (has : HasNext app codec log s more file v). inr (next_more v taken.0 more file has)) n)

      pub stepped : (core new : CoreView S) → m.core ≡ Some core → IsWithTaken app core.server.given step core.server.serving new.server.serving
          → new.server.given ≡ core.server.given → new.id ≡ core.id → HasServer app codec given (packed_with_step app given step s) (record m { core = Some new })
      stepped core new is_open taken given_same same_id =
          let runs = runs_on core is_open in
          record {
            batches = is.batches;
            next = is.next;
            k = is.k;
            stored = stored_more;
            runs = (
              given_same ∙ runs.0,
              serves_more core.server.serving new.server.serving
                  (subst (λ (g : Given). IsWithTaken app g step core.server.serving new.server.serving) runs.0 taken) runs.1,
            );
            named = same_id ∙ named_on core is_open;
            beside = beside_more (batch_on_way m.written is.next) (flushed_beside m) core.server.serving new.server.serving
                (subst (λ (g : Given). IsWithTaken app g step core.server.serving new.server.serving) runs.0 taken) (next_on core is_open);
          }

    -- the records that wait are handed out
    module _ (v : Serving S) (w : Written) (stands : Stands app s v) (ends : IsAtEnd codec log is.batches disk v) (out : IsHandedOut codec v w) where
      abbrev count : ℕ
      count = v.steps

      first : AreFirst app s v
      first = first_is app codec s v out.none_before stands out.batch

      behind : IsAtEnd codec log (is.batches ++ v.records ∷ []) (disk ++ w.bytes.items) (with_batch codec v)
      behind = (writes_log app codec log s is.batches disk v w is.stored.cut.has stands ends out).1

      whole : disk ++ w.bytes.items ≡ file_of (logged_by codec) log (is.batches ++ v.records ∷ [])
      whole = go behind.file
        where
          go : ((disk ++ w.bytes.items ≡ []) × (is.batches ++ v.records ∷ [] ≡ []) × ((with_batch codec v).header ≡ Some log))
              ⊎ ((disk ++ w.bytes.items ≡ file_of (logged_by codec) log (is.batches ++ v.records ∷ [])) × ((with_batch codec v).header ≡ None))
              → disk ++ w.bytes.items ≡ file_of (logged_by codec) log (is.batches ++ v.records ∷ [])
          go (inl new) = absurd (let none : ◌≡◌ {A = Option LogId} None (Some log) = new.2 in cc)
          go (inr old) = old.0

      handed_stored : IsStored app codec log s is.batches v.records count disk w.bytes.items
      handed_stored = record {
        within = first.within;
        cut = record {
          has = is.stored.cut.has;
          stand = first.stand;
          file = record {
            writable = is.stored.cut.has.writable;
            more = subst (AreBatchesOf (logged_by codec)) (sym first.batch) (out.batch, tt);
            file = disk;
            is = at_file log is.batches disk v ends;
            there = omega arith;
          };
        };
        rest = [];
        front = ap (λ more. file_of (logged_by codec) log (is.batches ++ more)) first.batch ∙ (sym whole ∙ sym (append-nil (disk ++ w.bytes.items)));
      }

      goes_behind : GoesOnBehind codec log is.batches v.records count disk (handed w) (with_batch codec v)
      goes_behind = record {
        batch = record { end = (with_batch codec v).tail.position; steps = v.steps; outputs = v.outputs };
        is = refl;
        steps = refl;
        end = sym out.end;
        at_end = subst (λ more. IsAtEnd codec log (is.batches ++ more) (disk ++ w.bytes.items) (with_batch codec v)) (sym first.batch) behind;
      }

      -- so is what was handed out for the new log
      next_written : (written : Option (Vec ℕ)) → elim written as (λ _. List ℕ) [ None ↦ [] | Some bytes ↦ bytes.items ] ≡ next_of (option_map (λ b. b.items) written)
      next_written None = refl
      next_written (Some bytes) = refl

      next_behind : (n : HasNext app codec log s [] (m.beside.items ++ []) v)
          → HasNext app codec log s (one_batch v.records) (m.beside.items ++ next_of (handed w).next) (with_batch codec v)
      next_behind n = record {
        disk = n.disk;
        same = n.same;
        batches = n.batches;
        has = n.has;
        at_end = subst (λ more. IsAtNextEnd codec log (n.batches ++ more) (m.beside.items ++ next_of (handed w).next) (with_batch codec v)) (sym first.batch)
            (subst (λ bytes. IsAtNextEnd codec log (n.batches ++ v.records ∷ []) bytes (with_batch codec v))
            ((λ i. append-nil m.beside.items i ++ next_written w.next i))
            (writes_next_log app codec log (record s { disk = n.disk }) n.batches (m.beside.items ++ []) v w n.has
            (stands_alike app s n.disk v n.same.store stands)
            (subst (λ bs. IsAtNextEnd codec log bs (m.beside.items ++ []) v) (append-nil n.batches) n.at_end) out).1);
      }

      served_behind : (v.next ≡ None) ⊎ HasNext app codec log s [] (m.beside.items ++ []) v
          → ((with_batch codec v).next ≡ None) ⊎ HasNext app codec log s (one_batch v.records) (m.beside.items ++ next_of (handed w).next) (with_batch codec v)
      served_behind (inl none) = inl (ap (option_map (λ t. after t (bytes_of_batch (logged_by codec) v.records))) none)
      served_behind (inr n) = inr (next_behind n)

    pub wrote : (core new : CoreView S) (w : Written) → m.core ≡ Some core → HandsOut codec core.server.serving (Some w) new.server.serving
        → new.server.given ≡ core.server.given → new.id ≡ core.id → HasServer app codec given s (record m { core = Some new; written = Some (handed w) })
    wrote core new w is_open out given_same same_id = go core.server.serving m.written out runs.1 (next_on core is_open)
      where
        runs : Runs app codec given log s is.batches is.next is.k disk m.written (Some core.server)
        runs = runs_on core is_open

        go : (o : Option (Serving S)) (before : Option Handed) → HandsOut codec o (Some w) new.server.serving → Serves app codec log s is.batches is.next is.k disk before o
            → ServesNext app codec log s (batch_on_way before is.next) (m.beside.items ++ next_bytes_of before) o
            → HasServer app codec given s (record m { core = Some new; written = Some (handed w) })
        go None before hands serves beside = absurd hands
        go (Some v) None hands serves beside = record {
          batches = is.batches;
          next = v.records;
          k = v.steps;
          stored = handed_stored v w serves.0 serves.1.at_end hands.0;
          runs = (
            given_same ∙ runs.0,
            subst (Serves app codec log s is.batches v.records v.steps disk (Some (handed w))) (sym hands.1)
                (handed_out codec app s v hands.0.none_before serves.0, goes_behind v w serves.0 serves.1.at_end hands.0),
          );
          named = same_id ∙ named_on core is_open;
          beside = subst (ServesNext app codec log s (one_batch v.records) (m.beside.items ++ next_of (handed w).next)) (sym hands.1)
              (served_behind v w serves.0 serves.1.at_end hands.0 beside);
        }
        go (Some v) (Some x) hands serves beside = absurd (let there : ◌≡◌ {A = Option (Batch S)} (Some serves.1.batch) None = sym serves.1.is ∙ hands.0.none_before in cc)

    -- Steps leave, and what was handed out is on disk: the disk has these batches, and the server goes on behind them with nothing on its way
    record Settles (position : ℕ) (v : Serving S) (more : Batches S) (bytes : List ℕ) : Type 0 where
      batches : Batches S
      has : HasLog app codec (packed_flushed_first app (steps_released position (Some v)) s) batches
      idle : (released position v).1.written ≡ None
      at_end : IsAtEnd codec log batches bytes (released position v).1
      beside : (file : List ℕ) → (v.next ≡ None) ⊎ HasNext app codec log s more file v
          → ((released position v).1.next ≡ None) ⊎ HasNext app codec log (packed_flushed_first app (steps_released position (Some v)) s) [] file (released position v).1

    module _ (position : ℕ) (v : Serving S) (stands : Stands app s v) where
      -- the server once what was on its way is on disk
      abbrev landed : Serving S
      landed = (batch_released position v).1

      abbrev landed_by : Option (Batch S) → Serving S
      landed_by o =
          (elim o as (λ _. PackedRecords S × Serving S) [
            | None ↦ (nothing_recorded, v)
            | Some b ↦ if is_flushed position b then (b.outputs, record v { written = None }) else (nothing_recorded, v)
          ]).1

      -- what the steps leave that leave now is what those of the batch do
      has_with : (next : List (NamedRecord S)) (k : ℕ) → steps_flushed position v.written ≡ k → AreBatchesOf (logged_by codec) (one_batch next)
          → StandFor app s.disk.store next (first_records k s.waiting) → (disk : PackedDisk S) → AreSameDisks app s.disk disk
          → (batches : Batches S) → HasLog app codec (record s { disk = disk }) batches
          → HasLog app codec (packed_flushed_first app (steps_released position (Some v)) (record s { disk = disk })) (batches ++ one_batch next)
      has_with next k counted writable stand disk same batches has =
          log_more app codec (steps_released position (Some v)) (record s { disk = disk }) batches next has writable
          (subst (StandFor app disk.store next)
          (sym (released_records app position s v stands ∙ ap (λ j. first_records j s.waiting) counted))
          (stand_same app s.disk.store disk.store same.store next (first_records k s.waiting) stand))

      itself : AreSameDisks app s.disk s.disk
      itself = record { store = refl; moment = refl }

      -- and so on the disk that a new log makes
      next_with : (next : List (NamedRecord S)) (k : ℕ) → steps_flushed position v.written ≡ k → AreBatchesOf (logged_by codec) (one_batch next)
          → StandFor app s.disk.store next (first_records k s.waiting) → (file : List ℕ) → (released position v).1.next ≡ v.next
          → (v.next ≡ None) ⊎ HasNext app codec log s (one_batch next) file v
          → ((released position v).1.next ≡ None) ⊎ HasNext app codec log (packed_flushed_first app (steps_released position (Some v)) s) [] file (released position v).1
      next_with next k counted writable stand file on (inl none) = inl (on ∙ none)
      next_with next k counted writable stand file on (inr n) =
          let left : ℕ = steps_released position (Some v) in
          inr (record {
            disk = (packed_flushed_first app left (record s { disk = n.disk })).disk;
            same = flushed_alike app given s n.disk n.same left;
            batches = n.batches ++ one_batch next;
            has = subst (λ (t : PackedServer S). HasLog app codec t (n.batches ++ one_batch next)) (flushed_but app left s n.disk)
                (has_with next k counted writable stand n.disk n.same n.batches n.has);
            at_end = subst (λ bs. IsAtNextEnd codec log bs file (released position v).1) (sym (append-nil (n.batches ++ one_batch next)))
                (record { file = n.at_end.file; next = on ∙ n.at_end.next });
          })

      behind_it : (u : Serving S) → landed ≡ u → IsBeside u (released position v).1
      behind_it u same = subst (λ x. IsBeside x (released position v).1) same (rest_beside landed)

      settles : (o : Option Handed) → IfSome o (λ w. position ≡ w.end) → GoesOn codec log is.batches is.next is.k disk o v
          → Settles position v (batch_on_way o is.next) (disk ++ bytes_of o)
      settles None end goes =
          let on : IsBeside v (released position v).1 = behind_it v (ap landed_by goes.idle) in
          record {
            batches = is.batches;
            has = subst (HasLog app codec (packed_flushed_first app (steps_released position (Some v)) s)) (append-nil is.batches)
                (has_with [] 0 (ap (steps_flushed position) goes.idle) tt tt s.disk itself is.batches is.stored.cut.has);
            beside = λ file n. next_with [] 0 (ap (steps_flushed position) goes.idle) tt tt file on.next n;
            idle = on.written ∙ goes.idle;
            at_end = at_end_beside codec log is.batches (disk ++ []) v (released position v).1 on
                (subst (λ bytes. IsAtEnd codec log is.batches bytes v) (sym (append-nil disk)) goes.at_end);
          }
      settles (Some w) end goes =
          let flagged : is_flushed position goes.batch ≡ true = le-leb goes.batch.end position (omega (arith, goes.end, end)) in
          let emptied : landed ≡ record v { written = None } =
          ap landed_by goes.is ∙ ap (λ (b : Bool). let p : PackedRecords S × Serving S = if b then (goes.batch.outputs, record v { written = None }) else (nothing_recorded, v) in p.1) flagged in
          let counted : steps_flushed position v.written ≡ is.k =
          ap (steps_flushed position) goes.is ∙ (ap (λ (b : Bool). if b then goes.batch.steps else 0) flagged ∙ goes.steps) in
          let on : IsBeside (record v { written = None }) (released position v).1 = behind_it (record v { written = None }) emptied in
          record {
            batches = is.batches ++ one_batch is.next;
            has = has_with is.next is.k counted is.stored.cut.file.more is.stored.cut.stand s.disk itself is.batches is.stored.cut.has;
            beside = λ file n. next_with is.next is.k counted is.stored.cut.file.more is.stored.cut.stand file on.next n;
            idle = on.written;
            at_end = at_end_beside codec log (is.batches ++ one_batch is.next) (disk ++ w.bytes) (record v { written = None }) (released position v).1 on
                (record { file = goes.at_end.file; tail = goes.at_end.tail });
          }

    -- a machine whose server serves, with nothing on its way
    next_now : (n : Machine S) (core : CoreView S) (t : PackedServer S) (next : List (NamedRecord S)) (v : Serving S) → n.core ≡ Some core → n.written ≡ None
        → core.server.serving ≡ Some v → (v.next ≡ None) ⊎ HasNext app codec (log_on n) t [] n.beside.items v
        → IfSome n.core (λ c. ServesNext app codec (log_on n) t (batch_on_way n.written next) (flushed_beside n) c.server.serving)
    next_now n core t next v now none serves h =
        subst (λ (c : Option (CoreView S)). IfSome c (λ x. ServesNext app codec (log_on n) t (batch_on_way n.written next) (flushed_beside n) x.server.serving)) (sym now)
        (subst (ServesNext app codec (log_on n) t (batch_on_way n.written next) (flushed_beside n)) (sym serves)
        (subst (λ (o : Option Handed). (v.next ≡ None) ⊎ HasNext app codec (log_on n) t (batch_on_way o next) (n.beside.items ++ next_bytes_of o) v) (sym none)
        (subst (λ file. (v.next ≡ None) ⊎ HasNext app codec (log_on n) t [] file v) (sym (append-nil n.beside.items)) h)))

    -- so many of the oldest waiting steps have left, and this is what they say
    pub record Flushed (k : ℕ) (said : PackedRecords S) (n : Machine S) : Type 0 where
      pub says : said ≡ said_by (take k s.waiting)
      pub stands : HasServer app codec given (packed_flushed_first app k s) n

    pub told : (core new : CoreView S) (position : ℕ) (outputs : PackedRecords S) (n : Machine S) → m.core ≡ Some core → IfSome m.written (λ w. position ≡ w.end)
        → (core.server.serving ≡ None → ⊥)
        → ((t : PackedServer S) → Represents app t core.server
        → (outputs ≡ said_by (take (steps_released position core.server.serving) t.waiting)) × Represents app (packed_flushed_first app (steps_released position core.server.serving) t) new.server)
        → new.server.serving ≡ option_map (λ v. (released position v).1) core.server.serving → new.server.given ≡ core.server.given → new.id ≡ core.id
        → n.id ≡ m.id → n.core ≡ Some new → n.written ≡ None → n.disk.items ≡ flushed m → n.beside.items ≡ flushed_beside m
        → Flushed (steps_released position core.server.serving) outputs n
    told core new position outputs n is_open end serves flushes empties given_same new_id same_id now none items beside = go core.server.serving refl runs.1 (next_on core is_open)
      where
        server : ServerView S
        server = core.server

        runs : Runs app codec given log s is.batches is.next is.k disk m.written (Some core.server)
        runs = runs_on core is_open

        go : (o : Option (Serving S)) → server.serving ≡ o → Serves app codec log s is.batches is.next is.k disk m.written o
            → ServesNext app codec log s (batch_on_way m.written is.next) (flushed_beside m) o → Flushed (steps_released position server.serving) outputs n
        go None is_none serving next_log = absurd (serves is_none)
        go (Some v) is_some serving next_log =
            let k : ℕ = steps_released position (Some v) in
            let z : Settles position v (batch_on_way m.written is.next) (disk ++ way) = settles position v serving.0 m.written end serving.1 in
            let next : Serving S = (released position v).1 in
            let says : (outputs ≡ said_by (take k s.waiting)) × Represents app (packed_flushed_first app k s) new.server =
            subst (λ o. (outputs ≡ said_by (take (steps_released position o) s.waiting)) × Represents app (packed_flushed_first app (steps_released position o) s) new.server) is_some
            (flushes s (subst (StandsFor app s) (sym is_some) serving.0)) in
            let left : new.server.serving ≡ Some next = empties ∙ ap (option_map (λ x. (released position x).1)) is_some in
            let ends : IsAtEnd codec (log_on n) z.batches n.disk.items next =
            subst (λ id. IsAtEnd codec (log_of 1 id) z.batches n.disk.items next) (sym same_id) (subst (λ d. IsAtEnd codec log z.batches d next) (sym items) z.at_end) in
            let has : HasLog app codec (packed_flushed_first app k s) z.batches = z.has in
            subst (λ o. Flushed (steps_released position o) outputs n) (sym is_some) (record {
              says = says.0;
              stands = record {
                batches = z.batches;
                next = [];
                k = 0;
                stored = subst (λ (x : Option Handed). IsStored app codec (log_on n) (packed_flushed_first app k s) z.batches [] 0 n.disk.items (bytes_of x)) (sym none)
                    (filed (log_on n) (packed_flushed_first app k s) z.batches n.disk.items has (at_file (log_on n) z.batches n.disk.items next ends));
                named = subst (λ (c : Option (CoreView S)). IfSome c (λ x. x.id ≡ n.id)) (sym now) (new_id ∙ (named_on core is_open ∙ sym same_id));
                beside = next_now n new (packed_flushed_first app k s) [] next now none left
                    (subst (λ id. (next.next ≡ None) ⊎ HasNext app codec (log_of 1 id) (packed_flushed_first app k s) [] n.beside.items next) (sym same_id)
                    (subst (λ file. (next.next ≡ None) ⊎ HasNext app codec log (packed_flushed_first app k s) [] file next) (sym beside)
                    (z.beside (flushed_beside m) next_log)));
                runs = subst (λ (c : Option (CoreView S)). Runs app codec given (log_on n) (packed_flushed_first app k s) z.batches [] 0 n.disk.items n.written (server_in c)) (sym now) (
                  given_same ∙ runs.0,
                  subst (λ x. Serves app codec (log_on n) (packed_flushed_first app k s) z.batches [] 0 n.disk.items x new.server.serving) (sym none)
                      (subst (Serves app codec (log_on n) (packed_flushed_first app k s) z.batches [] 0 n.disk.items None) (sym left)
                      (subst (StandsFor app (packed_flushed_first app k s)) left says.1, record { idle = z.idle; at_end = ends })),
                );
              };
            })

    -- what was handed out is lost, but for some of its front
    left_over : (there lost : List ℕ) (n : Machine S) → way ≡ there ++ lost → n.id ≡ m.id → n.disk.items ≡ m.disk.items ++ there → n.written ≡ None
        → IsStored app codec (log_on n) s is.batches is.next is.k n.disk.items (bytes_of n.written)
    left_over there lost n parts same_id items none =
        subst (λ id. IsStored app codec (log_of 1 id) s is.batches is.next is.k n.disk.items (bytes_of n.written)) (sym same_id)
        (subst (λ (x : Option Handed). IsStored app codec log s is.batches is.next is.k n.disk.items (bytes_of x)) (sym none)
        (subst (λ d. IsStored app codec log s is.batches is.next is.k d []) (sym items)
        (spilled log s is.batches is.next is.k disk way there lost parts is.stored)))

    -- the server stops
    pub left : (count : ℕ) (n : Machine S) → n.id ≡ m.id → n.core ≡ None → n.written ≡ None → n.disk.items ≡ torn count m → HasServer app codec given s n
    left count n same_id closed none items = record {
      batches = is.batches;
      next = is.next;
      k = is.k;
      stored = left_over (take count way) (drop count way) n (sym (take-append-drop count way)) same_id items none;
      runs = subst (λ (c : Option (CoreView S)). Runs app codec given (log_on n) s is.batches is.next is.k n.disk.items n.written (server_in c)) (sym closed) none;
      named = subst (λ (c : Option (CoreView S)). IfSome c (λ x. x.id ≡ n.id)) (sym closed) tt;
      beside = subst (λ (c : Option (CoreView S)). IfSome c (λ x. ServesNext app codec (log_on n) s (batch_on_way n.written is.next) (flushed_beside n) x.server.serving)) (sym closed) tt;
    }

    -- the server is opened on its disk: the model's has crashed
    pub reads : IsCodec codec → (o : Opened S) → OpensOn app codec given log disk 0 o → OpensCrashed app codec given log is.k 0 s disk o
    reads inverse o opens =
        subst (λ bytes. OpensCrashed app codec given log is.k 0 s bytes o) is_cut
        (opens_after_cuts app codec inverse given log is.k 0 s is.batches is.next (length disk) o is.stored.cut (subst (λ bytes. OpensOn app codec given log bytes 0 o) (sym is_cut) opens))
      where
        is_cut : cut_file app codec log is.batches is.next (length disk) ≡ disk
        is_cut = cut_is log s is.batches is.next is.k disk way is.stored

    pub opened : (o : OpenedCore S) (n : Machine S) → m.core ≡ None → (crash : OpensCrashed app codec given log is.k 0 s disk (record { server = o.core.server; end = o.end }))
        → ((v : Serving S) → o.core.server.serving ≡ Some v → v.next ≡ None)
        → o.core.server.given ≡ given → o.core.id ≡ m.id → n.id ≡ m.id → n.core ≡ Some o.core → n.written ≡ m.written
        → n.disk.items ≡ take o.end m.disk.items → HasServer app codec given (packed_crashed app given m.id crash.survive 0 s) n
    opened o n is_closed crash alone given_same core_id same_id now same_written items = go o.core.server.serving refl crash.stands
      where
        none : n.written ≡ None
        none = same_written ∙ subst (λ (c : Option (CoreView S)). Runs app codec given log s is.batches is.next is.k disk m.written (server_in c)) is_closed is.runs

        go : (v : Option (Serving S)) → o.core.server.serving ≡ v → StandsFor app (packed_crashed app given m.id crash.survive 0 s) v → HasServer app codec given (packed_crashed app given m.id crash.survive 0 s) n
        go None serves stands = absurd stands
        go (Some v) serves stands =
            let ends : IsAtEnd codec (log_on n) crash.batches n.disk.items v =
            subst (λ id. IsAtEnd codec (log_of 1 id) crash.batches n.disk.items v) (sym same_id)
            (subst (λ d. IsAtEnd codec log crash.batches d v) (sym items) (crash.goes_on v serves)) in
            record {
              batches = crash.batches;
              next = [];
              k = 0;
              stored = subst (λ (x : Option Handed). IsStored app codec (log_on n) (packed_crashed app given m.id crash.survive 0 s) crash.batches [] 0 n.disk.items (bytes_of x)) (sym none)
                  (filed (log_on n) (packed_crashed app given m.id crash.survive 0 s) crash.batches n.disk.items crash.has (at_file (log_on n) crash.batches n.disk.items v ends));
              named = subst (λ (c : Option (CoreView S)). IfSome c (λ x. x.id ≡ n.id)) (sym now) (core_id ∙ sym same_id);
              beside = next_now n o.core (packed_crashed app given m.id crash.survive 0 s) [] v now none serves (inl (alone v serves));
              runs = subst (λ (c : Option (CoreView S)). Runs app codec given (log_on n) (packed_crashed app given m.id crash.survive 0 s) crash.batches [] 0 n.disk.items n.written (server_in c)) (sym now) (
                given_same,
                subst (λ x. Serves app codec (log_on n) (packed_crashed app given m.id crash.survive 0 s) crash.batches [] 0 n.disk.items x o.core.server.serving) (sym none)
                    (subst (Serves app codec (log_on n) (packed_crashed app given m.id crash.survive 0 s) crash.batches [] 0 n.disk.items None) (sym serves)
                    (stands, record { idle = crash.idle v serves; at_end = ends })),
              );
            }

    -- nothing is on its way to the disk while none is at the server
    none_on_way : (v : Serving S) → v.written ≡ None → (o : Option Handed) → GoesOn codec log is.batches is.next is.k disk o v → o ≡ None
    none_on_way v idle None goes = refl
    none_on_way v idle (Some w) goes = absurd (let there : ◌≡◌ {A = Option (Batch S)} (Some goes.batch) None = sym goes.is ∙ idle in cc)

    serves_on : (core : CoreView S) (v : Serving S) → m.core ≡ Some core → core.server.serving ≡ Some v
        → Serves app codec log s is.batches is.next is.k disk m.written (Some v)
    serves_on core v is_open serves = subst (Serves app codec log s is.batches is.next is.k disk m.written) serves (runs_on core is_open).1

    -- a new log has begun: what waits leaves nothing on disk, and the file beside it makes a disk that is the same as a checkpoint's
    pub begun : (out : List (Output S)) (n : Machine S) → ByNewLog codec m out n
        → (packed_left_by s.waiting ≡ [] → AreSameDisks app s.disk (packed_checkpointed app s).disk) → HasServer app codec given s n
    begun out n b same = subst (HasServer app codec given s) (sym b.becomes) (record {
      batches = is.batches;
      next = is.next;
      k = is.k;
      stored = is.stored;
      named = ap (λ (x : CoreView S). x.id) b.does.rest ∙ named_on b.core b.is_open;
      runs = (
        ap (λ (x : CoreView S). x.server.given) b.does.rest ∙ (runs_on b.core b.is_open).0,
        subst (Serves app codec log s is.batches is.next is.k disk m.written) (sym now) (goes_on.old, goes m.written serves.1),
      );
      beside = subst (ServesNext app codec log s (batch_on_way m.written is.next) (n.beside.items ++ next_bytes_of m.written)) (sym now)
          (subst (λ (o : Option Handed). (next.next ≡ None) ⊎ HasNext app codec log s (batch_on_way o is.next) (n.beside.items ++ next_bytes_of o) next) (sym none)
          (inr (record {
            disk = (packed_checkpointed app s).disk;
            same = same goes_on.waits;
            batches = first_batches v;
            has = goes_on.has;
            at_end = subst (λ file. IsAtNextEnd codec log (first_batches v) file next) (sym (append-nil n.beside.items ∙ b.beside)) goes_on.ends;
          })));
    })
      where
        v : Serving S
        v = b.does.serving

        next : Serving S
        next = with_next_log codec log v

        now : b.next.server.serving ≡ Some next
        now = ap (λ (x : CoreView S). x.server.serving) b.does.rest

        serves : Serves app codec log s is.batches is.next is.k disk m.written (Some v)
        serves = serves_on b.core v b.is_open b.does.serves

        goes_on : GoesOnBesideNewLog app codec log s v b.log
        goes_on = new_logs_go_on app codec log s v b.log serves.0 b.does.is_new

        none : m.written ≡ None
        none = none_on_way v b.does.is_new.clear.0 m.written serves.1

        goes : (o : Option Handed) → GoesOn codec log is.batches is.next is.k disk o v → GoesOn codec log is.batches is.next is.k disk o next
        goes None on = record { idle = on.idle; at_end = record { file = on.at_end.file; tail = on.at_end.tail } }
        goes (Some w) on = record { batch = on.batch; is = on.is; steps = on.steps; end = on.end; at_end = record { file = on.at_end.file; tail = on.at_end.tail } }

    -- it has taken the old one's place: the machine has the server whose disk that log makes
    pub record TakenOver (n : Machine S) : Type 0 where
      pub disk : PackedDisk S
      pub same : AreSameDisks app s.disk disk
      pub stands : HasServer app codec given (record s { disk = disk }) n

    pub taken_over : (out : List (Output S)) (n : Machine S) → ByTakeOver m out n → TakenOver n
    taken_over out n b = go b.core.server.serving refl b.does.takes_over
      where
        go : (o : Option (Serving S)) → b.core.server.serving ≡ o → TakesOver o (Some b.end) b.next.server.serving → TakenOver n
        go None is_none over = absurd over
        go (Some v) serving over = placed (subst (ServesNext app codec log s (batch_on_way m.written is.next) (flushed_beside m)) serving (next_on b.core b.is_open))
          where
            serves : Serves app codec log s is.batches is.next is.k disk m.written (Some v)
            serves = serves_on b.core v b.is_open serving

            none : m.written ≡ None
            none = none_on_way v over.idle m.written serves.1

            new : Serving S
            new = with_log_at over.place v

            placed : (v.next ≡ None) ⊎ HasNext app codec log s (batch_on_way m.written is.next) (flushed_beside m) v → TakenOver n
            placed (inl alone) = absurd (let there : ◌≡◌ {A = Option Tail} (Some over.place) None = sym over.next ∙ alone in cc)
            placed (inr h) =
                let t : PackedServer S = record s { disk = h.disk } in
                let at_end : IsAtNextEnd codec log h.batches m.beside.items v =
                subst (λ bs. IsAtNextEnd codec log bs m.beside.items v) (append-nil h.batches)
                (subst (λ file. IsAtNextEnd codec log (h.batches ++ []) file v) (append-nil m.beside.items)
                (subst (λ (o : Option Handed). IsAtNextEnd codec log (h.batches ++ batch_on_way o is.next) (m.beside.items ++ next_bytes_of o) v) none h.at_end)) in
                let both : Stands app t new × IsAtEnd codec log h.batches m.beside.items new =
                new_logs_take_over app codec log t h.batches m.beside.items v b.end new (stands_alike app s h.disk v h.same.store serves.0) at_end
                (record { idle = over.idle; place = over.place; next = over.next; answers = over.answers; rest = refl }) in
                let ends : IsAtEnd codec (log_on n) h.batches n.disk.items new =
                subst (λ id. IsAtEnd codec (log_of 1 id) h.batches n.disk.items new) (sym b.id)
                (subst (λ d. IsAtEnd codec log h.batches d new) (sym b.disk) both.1) in
                record {
                  disk = h.disk;
                  same = h.same;
                  stands = record {
                    batches = h.batches;
                    next = [];
                    k = 0;
                    stored = subst (λ (x : Option Handed). IsStored app codec (log_on n) t h.batches [] 0 n.disk.items (bytes_of x)) (sym (b.written ∙ none))
                        (filed (log_on n) t h.batches n.disk.items h.has (at_file (log_on n) h.batches n.disk.items new ends));
                    named = subst (λ (c : Option (CoreView S)). IfSome c (λ x. x.id ≡ n.id)) (sym b.now)
                        (ap (λ (x : CoreView S). x.id) b.does.rest ∙ (named_on b.core b.is_open ∙ sym b.id));
                    runs = subst (λ (c : Option (CoreView S)). Runs app codec given (log_on n) t h.batches [] 0 n.disk.items n.written (server_in c)) (sym b.now) (
                      ap (λ (x : CoreView S). x.server.given) b.does.rest ∙ (runs_on b.core b.is_open).0,
                      subst (λ x. Serves app codec (log_on n) t h.batches [] 0 n.disk.items x b.next.server.serving) (sym (b.written ∙ none))
                          (subst (Serves app codec (log_on n) t h.batches [] 0 n.disk.items None) (sym over.rest)
                          (both.0, record { idle = over.idle; at_end = ends })),
                    );
                    beside = next_now n b.next t [] new b.now (b.written ∙ none) over.rest (inl refl);
                  };
                }

    -- or it is given up
    pub given_up : (core new : CoreView S) → m.core ≡ Some core → GivesUpLog core new → HasServer app codec given s (record m { core = Some new })
    given_up core new is_open gives = record {
      batches = is.batches;
      next = is.next;
      k = is.k;
      stored = is.stored;
      named = ap (λ (x : CoreView S). x.id) gives ∙ named_on core is_open;
      runs = (
        ap (λ (x : CoreView S). x.server.given) gives ∙ (runs_on core is_open).0,
        subst (Serves app codec log s is.batches is.next is.k disk m.written) (sym now) (serves core.server.serving (runs_on core is_open).1),
      );
      beside = subst (ServesNext app codec log s (batch_on_way m.written is.next) (flushed_beside m)) (sym now) (alone core.server.serving);
    }
      where
        now : new.server.serving ≡ option_map without_next_log core.server.serving
        now = ap (λ (x : CoreView S). x.server.serving) gives

        goes : (v : Serving S) (o : Option Handed) → GoesOn codec log is.batches is.next is.k disk o v
            → GoesOn codec log is.batches is.next is.k disk o (without_next_log v)
        goes v None on = record { idle = on.idle; at_end = record { file = on.at_end.file; tail = on.at_end.tail } }
        goes v (Some w) on = record { batch = on.batch; is = on.is; steps = on.steps; end = on.end; at_end = record { file = on.at_end.file; tail = on.at_end.tail } }

        serves : (o : Option (Serving S)) → Serves app codec log s is.batches is.next is.k disk m.written o
            → Serves app codec log s is.batches is.next is.k disk m.written (option_map without_next_log o)
        serves None h = tt
        serves (Some v) h = (new_logs_are_given_up app codec s v h.0, goes v m.written h.1)

        alone : (o : Option (Serving S)) → ServesNext app codec log s (batch_on_way m.written is.next) (flushed_beside m) (option_map without_next_log o)
        alone None = tt
        alone (Some v) = inl refl
