-- A disk gives back the store but for what is saved and applied: by the records that are replayed, and by a start on what they make.
use Rattle.std.specs.Prelude.{◌≡◌, ◌≤◌, max, ℕ, Bool, true, false, List, [], ◌∷◌, fold, nat_le, take, Option, None, Some, refl, if◌then◌else◌, is_some}
use Rattle.std.specs.Ordering.{nat_cmp}
use Rattle.std.proofs.Common.{◌∙◌, sym, ap, arith}
use Rattle.std.proofs.lemmas.Bool.{leb-true}
use Rattle.proof_deeds.specs.raft_state.declared.ids.LogId.{LogId}
use Rattle.proof_deeds.specs.raft_state.Order.{next}
use Rattle.proof_deeds.specs.raft_error.declared.error.EngineError.{EngineError}
use Rattle.proof_deeds.specs.raft_command.declared.config.EngineConfig.{EngineConfig}
use Rattle.proof_deeds.specs.raft_steps.Parts.{idle}
use Rattle.proof_deeds.specs.raft_steps.SnapshotCalls.{finish_building_snapshot}
use Rattle.proof_deeds.specs.raft_steps.Refusals.{refusals_of_spent}
use Rattle.proof_deeds.specs.raft_store.declared.entry.Entry.{Entry}
use Rattle.proof_deeds.specs.raft_store.Built.{meta_of}
use Rattle.proof_deeds.specs.raft_store.Entries.{entry_meaning}
use Rattle.proof_deeds.specs.raft_store.Restart.{forgotten, is_outrun, rebuilt, settled, settled_by, start_committed}
use Rattle.proof_deeds.specs.raft_store.Store.{exec_all, whole}
use Rattle.proof_deeds.specs.raft_store.Types.{EngineView, WorldCommand, WorldStore}
use Rattle.proof_deeds.specs.raft_schedule.declared.event.EventKind.TheVariants as event
use Rattle.proof_deeds.specs.raft_schedule.declared.event.Outcome.{Outcome}
use Rattle.proof_deeds.specs.raft_schedule.declared.event.Outcome.TheVariants.{Skipped}
use Rattle.proof_deeds.specs.raft_schedule.declared.event.SkipReason.{SkipReason}
use Rattle.proof_deeds.specs.raft_schedule.declared.event.Start.TheVariants.{Plain, Saved, Bare}
use Rattle.proof_deeds.specs.raft_node.declared.act.Act.{Act}
use Rattle.proof_deeds.specs.raft_node.declared.act.Act.TheVariants.{Initialize, Elect, Take, Propose, SendHeartbeat, Fail, TriggerSnapshot, FinishSnapshot, TriggerPurge, Restart, ChangeLearners, ChangeMembership, Read, StepDown, Stop}
use Rattle.proof_deeds.specs.raft_node.declared.given.Given.{Given}
use Rattle.proof_deeds.specs.raft_node.declared.node.Turn.{Turn}
use Rattle.proof_deeds.specs.raft_node.Commands.{executed}
use Rattle.proof_deeds.specs.raft_calls.Deliveries.{answered, deliver, with_machine}
use Rattle.proof_deeds.specs.raft_node.Events.{Scene, calls, calls_at, finish, on_engine, played, scene, skip_reason, skip_running, skip_stopped, turn_of, work_of}
use Rattle.proof_deeds.specs.raft_calls.Elections.{elected, initialized}
use Rattle.proof_deeds.specs.raft_calls.LeaderCalls.{failed, heartbeats_sent, proposed, read_asked, stepped_down}
use Rattle.proof_deeds.specs.raft_calls.Memberships.{learners_changed, membership_changed}
use Rattle.proof_deeds.specs.raft_node.Net.{NodeView, no_records, no_streams}
use Rattle.proof_deeds.specs.raft_node.Runs.{whole_logs}
use Rattle.proof_deeds.specs.raft_node.Snapshots.{finish_snapshot, kept_built}
use Rattle.proof_deeds.specs.raft_calls.Snapshots.{purge_triggered, snapshot_triggered, told_built}
use Rattle.proof_deeds.specs.raft_calls.Starts.{begun_anew}
use Rattle.proof_deeds.specs.raft_node.Work.{Work, weight}
use Rattle.proof_deeds.proofs.raft_node_proofs.InTurnSteps.{worked_store}
use Rattle.raft_wire.specs.declared.record.Began.{Began}
use Rattle.raft_wire.specs.declared.record.Began.TheVariants.{Built, Settled, Unchanged}
use Rattle.raft_wire.specs.declared.record.Change.{Change}
use Rattle.raft_wire.specs.declared.record.Record.{Record}
use Rattle.raft_wire.specs.Records.{begun, changed, changes_of, is_unchanging, no_changes, on_disk, record_of, replayed}
use Rattle.raft_wire.proofs.Replays.{all_replayed}
use Rattle.proof_servers.specs.Servers.{Disk, Step, build_effect, call_effect, called_node, disk_record, disk_records, event_at, left_of, node_after, played_alone, reserved_after, reserved_for, reserved_from, step_began, step_commands, step_work, with_records}
use Rattle.proof_servers.proofs.AtNode.{node_in, node_of}

-- a step's changes do the same to stores that are the same on disk: those of its calls, and of its commands
begun_same : (b : Began) (s t : WorldStore) → on_disk s ≡ on_disk t → on_disk (begun b s) ≡ on_disk (begun b t)
begun_same b s t h = all_replayed b [] [] s (begun b s) (begun b s) refl refl refl t [] (sym h) refl

changes_do : (cs : List WorldCommand) (s t : WorldStore) → on_disk s ≡ on_disk t → on_disk (fold changed s (changes_of cs)) ≡ on_disk (exec_all entry_meaning (λ es. es) t cs)
changes_do cs s t h = all_replayed Unchanged (changes_of cs) (changes_of cs) s s (fold changed s (changes_of cs)) refl refl refl t cs (sym h) refl

abbrev settle : WorldStore → WorldStore
settle t = settled nat_cmp entry_meaning t

-- entries are made to fit the snapshot whatever is saved and applied
settled_but : (saved : Option (LogId ℕ)) (applied : List Entry) (t : WorldStore) → settle (record t { saved = saved; applied = applied }) ≡ record (settle t) { saved = saved; applied = applied }
settled_but saved applied t = go t.meta.last_log_id
  where
    but : WorldStore → WorldStore
    but u = record u { saved = saved; applied = applied }

    chosen : (x : LogId ℕ) (b : Bool) → (if b then record (but t) { log = []; front = Some x } else but t) ≡ but (if b then record t { log = []; front = Some x } else t)
    chosen x true = refl
    chosen x false = refl

    go : (o : Option (LogId ℕ)) → settled_by nat_cmp entry_meaning (but t) o ≡ but (settled_by nat_cmp entry_meaning t o)
    go None = refl
    go (Some x) = chosen x (is_outrun nat_cmp entry_meaning t x)

settled_durable : (t : WorldStore) → settle (on_disk t) ≡ on_disk (settle t)
settled_durable t = settled_but None [] t

-- what a step's calls make of the store
on_engine_store : (f : EngineView → Option ℕ × EngineView) (n : NodeView) → on_disk (on_engine f n).1.store ≡ on_disk n.store
on_engine_store f n = go n.engine
  where
    go : (o : Option EngineView) → on_disk (node_in (elim o as (λ _. Option ℕ × NodeView) [ None ↦ (None, n) | Some e ↦ (let r = f e in (r.0, record n { engine = Some r.1 })) ])).store ≡ on_disk n.store
    go None = refl
    go (Some e) = refl

finish_store : (n : NodeView) → on_disk (finish_snapshot n).1.store ≡ on_disk (begun (call_effect FinishSnapshot n) n.store)
finish_store n = go n.engine n.noted
  where
    told : (es : List Entry) (e : EngineView) (o : Option (EngineError ℕ (Unit {0})))
        → on_disk (node_in (kept_built es n (answered o e (with_machine e (finish_building_snapshot nat_cmp e.config (meta_of entry_meaning es) e.machine))))).store
        ≡ on_disk (begun (if is_some o then Unchanged else Built es) n.store)
    told es e None = refl
    told es e (Some k) = refl

    go : (o : Option EngineView) (p : Option (List Entry))
        → on_disk (node_in (elim o as (λ _. Option ℕ × NodeView) [ None ↦ (None, n) | Some e ↦ elim p as (λ _. Option ℕ × NodeView) [ None ↦ (None, n) | Some es ↦ kept_built es n (told_built es e) ] ])).store
        ≡ on_disk (begun (elim o as (λ _. Began) [ None ↦ Unchanged | Some e ↦ elim p as (λ _. Began) [ None ↦ Unchanged | Some es ↦ build_effect es e ] ]) n.store)
    go None p = refl
    go (Some e) None = refl
    go (Some e) (Some es) = told es e (refusals_of_spent e.machine)

calls_store : (given : Given) (act : Act) (n : NodeView) → on_disk (calls_at given act n).1.store ≡ on_disk (begun (call_effect act n) n.store)
calls_store given Initialize n = on_engine_store (initialized given.membership n.moment) n
calls_store given (Elect candidates) n = on_engine_store (elected n.moment) n
calls_store given (Take m) n = on_engine_store (deliver m.from m.body n.moment) n
calls_store given (Propose values) n = on_engine_store (proposed values) n
calls_store given SendHeartbeat n = on_engine_store heartbeats_sent n
calls_store given (Fail target) n = on_engine_store (failed target) n
calls_store given TriggerSnapshot n = on_engine_store snapshot_triggered n
calls_store given FinishSnapshot n = finish_store n
calls_store given (TriggerPurge i) n = on_engine_store (purge_triggered i) n
calls_store given (Restart Plain) n = refl
calls_store given (Restart Saved) n = refl
calls_store given (Restart Bare) n = sym (settled_durable (forgotten n.store)) ∙ settled_durable n.store
calls_store given (ChangeLearners learners) n = on_engine_store (learners_changed learners) n
calls_store given (ChangeMembership groups learners) n = on_engine_store (membership_changed groups learners) n
calls_store given Read n = on_engine_store read_asked n
calls_store given StepDown n = on_engine_store stepped_down n
calls_store given Stop n = refl

-- a step's record, replayed on a store that is the same on disk as the one before the step, gives the store after it
record_replayed : (given : Given) (reserved : ℕ) (n : NodeView) (s : Step) (t : WorldStore) → on_disk t ≡ on_disk n.store
    → on_disk (replayed (disk_record given reserved n s) t) ≡ on_disk (node_after given n s).store
unfolding played finish
record_replayed given reserved n s t h = go (skip_reason s.act n)
  where
    go : (o : Option SkipReason)
        → on_disk (replayed (record_of (reserved_after given reserved n s)
        (elim o as (λ _. Began) [ Some reason ↦ Unchanged | None ↦ call_effect s.act (called_node s n) ])
        (elim o as (λ _. List WorldCommand) [
          | Some reason ↦ []
          | None ↦ executed whole_logs (turn_of s.act (called_node s n)) (weight (step_work given n s)) (step_work given n s)
        ])) t)
        ≡ on_disk (node_of (elim o as (λ _. Outcome × Scene (List Entry)) [
          | Some reason ↦ (Skipped reason, scene n no_records)
          | None ↦ finish whole_logs weight (turn_of s.act (called_node s n)) None
              (calls {L = List Entry} given s.act (scene (called_node s n) no_records)).0 (calls {L = List Entry} given s.act (scene (called_node s n) no_records)).1
        ])).store
    go (Some reason) = h
    go None =
        changes_do (executed whole_logs (turn_of s.act (called_node s n)) (weight (step_work given n s)) (step_work given n s))
        (begun (call_effect s.act (called_node s n)) t) (calls_at given s.act (called_node s n)).1.store
        (begun_same (call_effect s.act (called_node s n)) t n.store h ∙ sym (calls_store given s.act (called_node s n)))
        ∙ sym (ap on_disk (worked_store whole_logs (turn_of s.act (called_node s n)) (weight (step_work given n s)) (step_work given n s)))

-- what is left out changes nothing
unchanging : (r : Record) (t : WorldStore) → is_unchanging r ≡ true → replayed r t ≡ t
unchanging r t = go r.began r.changes
  where
    go : (b : Began) (cs : List Change) → no_changes b cs ≡ true → fold changed (begun b t) cs ≡ t
    go Unchanged [] none = refl
    go Unchanged (c ∷ cs) none = absurd cc
    go Settled cs none = absurd cc
    go (Built es) cs none = absurd cc

-- so the disk has the same store as if it weren't, and the same moment
pub record Leaves (r : Record) (d : Disk) (rs : List Record) : Type 0 where
  pub store : (with_records rs d).store ≡ replayed r d.store
  pub moment : (with_records rs d).moment ≡ r.moment

leaves : (is_reserved : Bool) (r : Record) (d : Disk) → (is_reserved ≡ true → d.moment ≡ r.moment) → Leaves r d (left_of is_reserved r)
leaves false r d same = record { store = refl; moment = refl }
leaves true r d same = go (is_unchanging r) refl
  where
    go : (none : Bool) → is_unchanging r ≡ none → Leaves r d (if none then [] else r ∷ [])
    go false is = record { store = refl; moment = refl }
    go true is = record { store = sym (unchanging r d.store is); moment = same refl }

module _ (given : Given) (n : NodeView) (s : Step) (d : Disk) where
  step_leaves : Leaves (disk_record given d.moment n s) d (disk_records given d.moment n s)
  step_leaves =
      leaves (nat_le (node_after given n s).moment d.moment) (disk_record given d.moment n s) d
      (λ is. ap (λ b. if b then d.moment else reserved_from (node_after given n s).moment) (sym is))

  -- what a step leaves makes of a disk with the store before it one with the store after it,
  pub step_stored : on_disk d.store ≡ on_disk n.store → on_disk (with_records (disk_records given d.moment n s) d).store ≡ on_disk (node_after given n s).store
  step_stored same = ap on_disk step_leaves.store ∙ record_replayed given d.moment n s d.store same

  -- and the moment up to which moments are reserved then, which is the node's or later
  pub step_reserves : (with_records (disk_records given d.moment n s) d).moment ≡ reserved_after given d.moment n s
  step_reserves = step_leaves.moment

pub reserves : (moment reserved : ℕ) → moment ≤ reserved_for moment reserved
reserves moment reserved = go (nat_le moment reserved) refl
  where
    go : (b : Bool) → nat_le moment reserved ≡ b → moment ≤ (if b then reserved else reserved_from moment)
    go true is = leb-true moment reserved is
    go false is = omega arith

-- a start on a store whose entries fit the snapshot
abbrev started_on : EngineConfig ℕ → ℕ → ℕ → WorldStore → Option ℕ × NodeView
started_on settings id moment u =
    let r = begun_anew moment (record { config = record settings { id = id }; machine = idle (rebuilt nat_cmp entry_meaning u (start_committed nat_cmp entry_meaning false u)); seen_greater_log = false }) in (
      r.0,
      record {
        id = id;
        store = record u { applied = take (next (start_committed nat_cmp entry_meaning false u)) (whole u) };
        engine = Some r.1;
        streams = no_streams;
        noted = None;
        moment = moment;
      },
    )

started_same : (settings : EngineConfig ℕ) (id moment : ℕ) (s t : WorldStore) → on_disk s ≡ on_disk t → started_on settings id moment (settle (forgotten s)) ≡ started_on settings id moment (settle (forgotten t))
started_same settings id moment s t h =
    ap (λ u. started_on settings id moment u) (settled_but None s.applied s)
    ∙ (ap (λ u. started_on settings id moment u) (sym (settled_durable s) ∙ (ap settle h ∙ settled_durable t)) ∙ sym (ap (λ u. started_on settings id moment u) (settled_but None t.applied t)))

abbrev pub start_step : ℕ → Step
start_step at = record { act = Restart Bare; at = at }

abbrev start_turn : ℕ → ℕ → Turn
start_turn id moment = record { id = id; moment = moment; request = None }

-- what a start does, up to so many commands, and these, by the node's id, its moment and what it begins with
abbrev played_start : (Work (List Entry) → ℕ) → ℕ → ℕ → Option ℕ × NodeView → Outcome × Scene (List Entry)
played_start upto id moment r = finish whole_logs upto (start_turn id moment) None r.0 (scene r.1 no_records)

abbrev commands_start : ℕ → ℕ → Option ℕ × NodeView → List WorldCommand
commands_start id moment r =
    let w = work_of {L = List Entry} None (scene r.1 no_records) in
    executed whole_logs (start_turn id moment) (weight w) w

module _ (given : Given) (at : ℕ) (n : NodeView) where
  abbrev beginning : Option ℕ × NodeView
  beginning = started_on given.settings n.id (max at n.moment) (settle (forgotten n.store))

  start_played : (upto : Work (List Entry) → ℕ)
      → played whole_logs upto given (Restart Bare) (event_at (event.Read 0) at) (scene n no_records) ≡ played_start upto n.id (max at n.moment) beginning
  unfolding played
  start_played upto = go n.engine
    where
      go : (o : Option EngineView)
          → (elim (elim o as (λ _. Option SkipReason) [ None ↦ skip_stopped (Restart Bare) | Some e ↦ skip_running (Restart Bare) n e ]) as (λ _. Outcome × Scene (List Entry)) [
            | Some reason ↦ (Skipped reason, scene n no_records)
            | None ↦ played_start upto n.id (max at n.moment) beginning
          ])
          ≡ played_start upto n.id (max at n.moment) beginning
      go None = refl
      go (Some e) = refl

  start_began : step_began n (start_step at) ≡ Settled
  start_began = go n.engine
    where
      go : (o : Option EngineView)
          → (elim (elim o as (λ _. Option SkipReason) [ None ↦ skip_stopped (Restart Bare) | Some e ↦ skip_running (Restart Bare) n e ]) as (λ _. Began) [ Some reason ↦ Unchanged | None ↦ Settled ])
          ≡ Settled
      go None = refl
      go (Some e) = refl

  start_commands : step_commands given n (start_step at) ≡ commands_start n.id (max at n.moment) beginning
  start_commands = go n.engine
    where
      go : (o : Option EngineView)
          → (elim (elim o as (λ _. Option SkipReason) [ None ↦ skip_stopped (Restart Bare) | Some e ↦ skip_running (Restart Bare) n e ]) as (λ _. List WorldCommand) [
            | Some reason ↦ []
            | None ↦ commands_start n.id (max at n.moment) beginning
          ])
          ≡ commands_start n.id (max at n.moment) beginning
      go None = refl
      go (Some e) = refl

-- starts do the same on two nodes of one id whose stores are the same on disk, if they come to the same moment
module _ (given : Given) (at bt : ℕ) (m n : NodeView) (id : m.id ≡ n.id) (moment : max at m.moment ≡ max bt n.moment) (h : on_disk m.store ≡ on_disk n.store) where
  beginning_same : beginning given at m ≡ beginning given bt n
  beginning_same =
      started_same given.settings m.id (max at m.moment) m.store n.store h
      ∙ (λ i. started_on given.settings (id i) (moment i) (settle (forgotten n.store)))

  pub played_upto_same : (upto : Work (List Entry) → ℕ)
      → played whole_logs upto given (Restart Bare) (event_at (event.Read 0) at) (scene m no_records)
      ≡ played whole_logs upto given (Restart Bare) (event_at (event.Read 0) bt) (scene n no_records)
  played_upto_same upto = start_played given at m upto ∙ ((λ i. played_start upto (id i) (moment i) (beginning_same i)) ∙ sym (start_played given bt n upto))

  pub played_same : played_alone given m (start_step at) ≡ played_alone given n (start_step bt)
  played_same = played_upto_same weight

  commands_same : step_commands given m (start_step at) ≡ step_commands given n (start_step bt)
  commands_same = start_commands given at m ∙ ((λ i. commands_start (id i) (moment i) (beginning_same i)) ∙ sym (start_commands given bt n))

  began_same : step_began m (start_step at) ≡ step_began n (start_step bt)
  began_same = start_began given at m ∙ sym (start_began given bt n)

  pub disk_records_same : (reserved : ℕ) → disk_records given reserved m (start_step at) ≡ disk_records given reserved n (start_step bt)
  disk_records_same reserved = λ i.
      left_of (nat_le (played_same i).1.node.moment reserved)
      (record_of (reserved_for (played_same i).1.node.moment reserved) (began_same i) (commands_same i))
