-- What a step executes stands behind what its state machine had taken before: so a server that hands out all that its steps execute has
-- handed out what its state machine has taken, unless a snapshot was put in its place.
use Rattle.std.proofs.Common.{ℕ, ◌≡◌, ◌≢◌, Bool, true, false, List, [], ◌∷◌, ◌++◌, length, map, refl, sym, ap, ◌∙◌, append-nil, append_assoc, Option, None, Some}
use Rattle.std.specs.Prelude.{nat_lt, if◌then◌else◌}
use Rattle.std.proofs.lemmas.Bool.{cond_both}
use Rattle.std.proofs.lemmas.List.{map-append}
use Rattle.raft_state.specs.declared.ids.LogId.{LogId}
use Rattle.raft_command.specs.declared.command.Command.TheVariants.{AppendInputEntries, BecomeLeader, Commit, DeleteConflictLog, PurgeLog, QuitLeader, RebuildReplicationStreams, Replicate, ReplicateCommitted, Respond, SaveVote, SendVote, StateMachine}
use Rattle.raft_command.specs.declared.replication.ReplicationSessionId.{ReplicationSessionId}
use Rattle.raft_command.specs.declared.sm.CommandPayload.TheVariants.{BuildSnapshot, GetSnapshot, BeginReceivingSnapshot, InstallFullSnapshot, Apply}
use Rattle.raft_command.specs.Queue.{Queue, popped}
use Rattle.raft_store.specs.declared.entry.Entry.{Entry}
use Rattle.raft_store.specs.Store.{due}
use Rattle.raft_store.specs.Types.{EngineView, WorldCommand, WorldPayload, WorldStore}
use Rattle.raft_schedule.specs.declared.event.Outcome.{Outcome}
use Rattle.raft_schedule.specs.declared.event.Outcome.TheVariants.{Skipped}
use Rattle.raft_schedule.specs.declared.event.SkipReason.{SkipReason}
use Rattle.raft_schedule.specs.declared.event.Start.{Start}
use Rattle.raft_node.specs.declared.act.Act.{Act}
use Rattle.raft_node.specs.declared.act.Act.TheVariants.{ChangeLearners, ChangeMembership, Elect, Fail, FinishSnapshot, Initialize, Propose, Read, Restart, SendHeartbeat, StepDown, Stop, Take, TriggerPurge, TriggerSnapshot}
use Rattle.raft_node.specs.declared.given.Given.{Given}
use Rattle.raft_node.specs.declared.node.Turn.{Turn}
use Rattle.raft_node.specs.declared.record.Executed.{Executed}
use Rattle.raft_node.specs.declared.record.Installed.{Installed}
use Rattle.raft_node.specs.Events.{Scene, calls, calls_at, finish, played, scene, skip_reason, turn_of, work_of}
use Rattle.raft_node.specs.Execute.{Effects, exec, exec_committed, exec_payload, replicate_committed, replication, sending, to_each}
use Rattle.raft_node.specs.Net.{NodeView, no_records}
use Rattle.raft_node.specs.Runs.{whole_logs}
use Rattle.raft_node.specs.Snapshots.{kept_built}
use Rattle.raft_node.specs.Work.{Work, done_of, one_less, step_of, stopped, stops, weight, work_step, worked}
use Rattle.raft_node.proofs.Worked.{worked-keeps}
use Rattle.raft_calls.specs.Engines.{with_queue}
use Rattle.raft_calls.specs.Feeds.{feed}
use Rattle.raft_calls.specs.Snapshots.{told_built}
use Rattle.proof_servers.specs.Servers.{Step, called_node, node_after, outputs_of}

-- the entries of what was executed
abbrev pub entries_in : List Executed → List Entry
entries_in rs = map (λ (r : Executed). r.entry) rs

no_end : {A : Type 0} (xs : List A) (y : A) → xs ++ y ∷ [] ≡ [] → ⊥
no_end [] y q = cc
no_end (x ∷ xs) y q = cc

module _ (t : Turn) (base : List Entry) where
  -- as long as no snapshot was installed, what was executed stands behind what was applied at first
  abbrev Grown : Effects (List Entry) → Type 0
  Grown w = w.records.installed ≡ [] → w.store.applied ≡ base ++ entries_in w.records.executed

  abbrev executed_by : List Entry → List Executed
  executed_by xs = map (λ (x : Entry). let r : Executed = record { node = t.id; entry = x } in r) xs

  entries_back : (xs : List Entry) → entries_in (executed_by xs) ≡ xs
  entries_back [] = refl
  entries_back (x ∷ xs) = ap (λ zs. x ∷ zs) (entries_back xs)

  -- more entries behind both
  behind_both : (applied new : List Entry) (old : List Executed) → applied ≡ base ++ entries_in old → applied ++ new ≡ base ++ entries_in (old ++ executed_by new)
  behind_both applied new old q =
      ap (λ xs. xs ++ new) q
      ∙ (append_assoc base (entries_in old) new
      ∙ ap (λ xs. base ++ xs) (ap (λ xs. entries_in old ++ xs) (sym (entries_back new)) ∙ sym (map-append (λ (r : Executed). r.entry) old (executed_by new))))

  payload_grown : (c : WorldCommand) (p : WorldPayload) (w : Effects (List Entry)) → Grown w → Grown (exec_payload whole_logs t c p w)
  payload_grown c BuildSnapshot w h = h
  payload_grown c (GetSnapshot tx) w h = h
  payload_grown c (BeginReceivingSnapshot tx) w h = h
  payload_grown c (InstallFullSnapshot s) w h = λ q. absurd (no_end w.records.installed (let r : Installed = record { node = t.id; entries = s.snapshot } in r) q)
  payload_grown c (Apply es) w h = h

  committed_grown : (x : Option (LogId ℕ)) (w : Effects (List Entry)) → Grown w → Grown (exec_committed whole_logs t x w)
  committed_grown x w h = go w.streams.session_id
    where
      go : (o : Option (ReplicationSessionId ℕ)) → Grown (elim o as (λ _. Effects (List Entry)) [ None ↦ w | Some s ↦ replicate_committed whole_logs t x s w ])
      go None = h
      go (Some s) = h

  exec_grown : (e : EngineView) (c : WorldCommand) (w : Effects (List Entry)) → Grown w → Grown (exec whole_logs t e c w)
  exec_grown e (SaveVote v) w h = h
  exec_grown e (AppendInputEntries v es) w h = h
  exec_grown e (DeleteConflictLog since) w h = h
  exec_grown e (PurgeLog upto) w h = h
  exec_grown e (Commit seq already upto) w h = λ q. behind_both w.store.applied (due w.store upto) w.records.executed (h q)
  exec_grown e (StateMachine c) w h = payload_grown (StateMachine c) c.payload w h
  exec_grown e (SendVote req) w h = h
  exec_grown e (RebuildReplicationStreams targets) w h = h
  exec_grown e (Replicate target req) w h = go w.streams.session_id
    where
      go : (o : Option (ReplicationSessionId ℕ)) → Grown (elim o as (λ _. Effects (List Entry)) [ None ↦ w | Some s ↦ sending (to_each t.id (target ∷ []) (replication t s w.store req)) w ])
      go None = h
      go (Some s) = h
  exec_grown e (ReplicateCommitted x) w h = committed_grown x w h
  exec_grown e (Respond when reply) w h = h
  exec_grown e BecomeLeader w h = h
  exec_grown e QuitLeader w h = h

  abbrev effects_in : Work (List Entry) → Effects (List Entry)
  effects_in w = w.effects

  done_grown : (w : Work (List Entry)) (e : EngineView) (c : WorldCommand) → Grown w.effects → Grown (done_of whole_logs t w e c).effects
  done_grown w e c h = go (stops w.left)
    where
      go : (b : Bool) → Grown (effects_in (if b then stopped (exec whole_logs t e c w.effects) else record { engine = Some (feed t.moment c e); effects = exec whole_logs t e c w.effects; left = one_less w.left }))
      go true = exec_grown e c w.effects h
      go false = exec_grown e c w.effects h

  step_grown : (w : Work (List Entry)) → Grown w.effects → Grown (work_step whole_logs t w).effects
  step_grown w h = go w.engine
    where
      by_command : (e : EngineView) (o : Option WorldCommand) (q : Queue WorldCommand) → Grown (effects_in (step_of whole_logs t w e (o, q)))
      by_command e None q = h
      by_command e (Some c) q = done_grown w (with_queue e q) c h

      go : (o : Option EngineView) → Grown (effects_in (elim o as (λ _. Work (List Entry)) [ None ↦ w | Some e ↦ step_of whole_logs t w e (popped e.machine.core.output) ]))
      go None = h
      go (Some e) = by_command e (popped e.machine.core.output).0 (popped e.machine.core.output).1

  all_grown : (fuel : ℕ) (w : Work (List Entry)) → Grown w.effects → Grown (worked whole_logs fuel t w).effects
  all_grown fuel w h = worked-keeps whole_logs t (λ v. Grown v.effects) fuel (λ v busy k. step_grown v k) w h

-- only a start changes what is applied before the queue is worked off
pub calls_keep : (given : Given) (act : Act) (n : NodeView) → ((start : Start) → act ≢ Restart start) → (calls_at given act n).1.store.applied ≡ n.store.applied
calls_keep given act n h = go act n.engine h
  where
    kept : (es : List Entry) (m : NodeView) (p : Option ℕ × EngineView) → (kept_built es m p).1.store.applied ≡ m.store.applied
    kept es m (Some k, f) = refl
    kept es m (None, f) = cond_both (nat_lt (length m.store.snap) (length es)) _ m.store (λ (t : WorldStore). t.applied ≡ m.store.applied) (λ _. refl) (λ _. refl)

    noted : (e : EngineView) (o : Option (List Entry))
        → (let m : NodeView = (elim o as (λ _. Option ℕ × NodeView) [ None ↦ (None, record n { engine = Some e }) | Some es ↦ kept_built es (record n { engine = Some e }) (told_built es e) ]).1 in m.store.applied) ≡ n.store.applied
    noted e None = refl
    noted e (Some es) = kept es (record n { engine = Some e }) (told_built es e)

    go : (act : Act) (o : Option EngineView) → ((start : Start) → act ≢ Restart start) → (calls_at given act (record n { engine = o })).1.store.applied ≡ n.store.applied
    go Initialize None h = refl
    go Initialize (Some e) h = refl
    go (Elect candidates) None h = refl
    go (Elect candidates) (Some e) h = refl
    go (Take m) None h = refl
    go (Take m) (Some e) h = refl
    go (Propose values) None h = refl
    go (Propose values) (Some e) h = refl
    go SendHeartbeat None h = refl
    go SendHeartbeat (Some e) h = refl
    go (Fail target) None h = refl
    go (Fail target) (Some e) h = refl
    go TriggerSnapshot None h = refl
    go TriggerSnapshot (Some e) h = refl
    go FinishSnapshot None h = refl
    go FinishSnapshot (Some e) h = noted e n.noted
    go (TriggerPurge i) None h = refl
    go (TriggerPurge i) (Some e) h = refl
    go (Restart start) o h = absurd (h start refl)
    go (ChangeLearners learners) None h = refl
    go (ChangeLearners learners) (Some e) h = refl
    go (ChangeMembership groups learners) None h = refl
    go (ChangeMembership groups learners) (Some e) h = refl
    go Read None h = refl
    go Read (Some e) h = refl
    go StepDown None h = refl
    go StepDown (Some e) h = refl
    go Stop None h = refl
    go Stop (Some e) h = refl

module _ (given : Given) (n : NodeView) (s : Step) where
  -- What its state machine has taken after a step: what it executed, behind what was there before; after a start behind what the start
  -- found.
  pub record HasGrown : Type 0 where
    pub base : List Entry
    pub same : ((start : Start) → s.act ≢ Restart start) → base ≡ n.store.applied
    pub grown : (outputs_of given n s).installed ≡ [] → (node_after given n s).store.applied ≡ base ++ entries_in (outputs_of given n s).executed

  abbrev grown_in : List Entry → Outcome × Scene (List Entry) → Type 0
  grown_in base p = p.1.records.installed ≡ [] → p.1.node.store.applied ≡ base ++ entries_in p.1.records.executed

  abbrev in_step : Option SkipReason → Outcome × Scene (List Entry)
  in_step o =
      elim o as (λ _. Outcome × Scene (List Entry)) [
        | Some reason ↦ (Skipped reason, scene n no_records)
        | None ↦ finish whole_logs weight (turn_of s.act (called_node s n)) None (calls {L = List Entry} given s.act (scene (called_node s n) no_records)).0
            (calls {L = List Entry} given s.act (scene (called_node s n) no_records)).1
      ]

  abbrev Result : Option SkipReason → Type 0
  Result o = (base : List Entry) × (((start : Start) → s.act ≢ Restart start) → base ≡ n.store.applied) × grown_in base (in_step o)

  by_reason : (o : Option SkipReason) → Result o
  unfolding finish
  by_reason (Some reason) = (n.store.applied, λ h. refl, λ q. sym (append-nil n.store.applied))
  by_reason None =
      let now : Scene (List Entry) = (calls {L = List Entry} given s.act (scene (called_node s n) no_records)).1 in (
        now.node.store.applied,
        λ h. calls_keep given s.act (called_node s n) h,
        all_grown (turn_of s.act (called_node s n)) now.node.store.applied (weight (work_of None now)) (work_of None now) (λ q. sym (append-nil now.node.store.applied)),
      )

  pub has_grown : HasGrown
  unfolding played
  has_grown = let r : Result (skip_reason s.act n) = by_reason (skip_reason s.act n) in record { base = r.0; same = r.1; grown = r.2 }
