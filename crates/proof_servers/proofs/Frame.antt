-- An event at a node does the same whatever was recorded before, and whatever is kept of whole logs.
use Rattle.std.specs.Prelude.{◌≡◌, ℕ, Bool, true, false, List, [], ◌∷◌, ◌++◌, map, Option, None, Some, refl, if◌then◌else◌}
use Rattle.std.specs.Option.{option_to_list}
use Rattle.std.proofs.Common.{◌∙◌, sym, ap, zero, suc}
use Rattle.std.proofs.lemmas.List.{append_assoc, map-append}
use Rattle.proof_deeds.specs.raft_state.declared.ids.LogId.{LogId}
use Rattle.proof_deeds.specs.raft_command.declared.command.Command.TheVariants.{AppendInputEntries, BecomeLeader, Commit, DeleteConflictLog, PurgeLog, QuitLeader, RebuildReplicationStreams, Replicate, ReplicateCommitted, Respond, SaveVote, SendVote, StateMachine}
use Rattle.proof_deeds.specs.raft_command.declared.replication.ReplicationSessionId.{ReplicationSessionId}
use Rattle.proof_deeds.specs.raft_command.declared.sm.CommandPayload.TheVariants.{BuildSnapshot, GetSnapshot, BeginReceivingSnapshot, InstallFullSnapshot, Apply}
use Rattle.proof_deeds.specs.raft_command.Queue.{Queue, popped}
use Rattle.proof_deeds.specs.raft_store.declared.entry.Entry.{Entry}
use Rattle.proof_deeds.specs.raft_store.Store.{due}
use Rattle.proof_deeds.specs.raft_store.Types.{WorldCommand, WorldPayload, EngineView}
use Rattle.proof_deeds.specs.raft_schedule.declared.event.Event.{Event}
use Rattle.proof_deeds.specs.raft_schedule.declared.event.Outcome.{Outcome}
use Rattle.proof_deeds.specs.raft_schedule.declared.event.Outcome.TheVariants.{Skipped}
use Rattle.proof_deeds.specs.raft_schedule.declared.event.SkipReason.{SkipReason}
use Rattle.proof_deeds.specs.raft_node.declared.act.Act.{Act}
use Rattle.proof_deeds.specs.raft_node.declared.given.Given.{Given}
use Rattle.proof_deeds.specs.raft_calls.declared.message.Message.{Message}
use Rattle.proof_deeds.specs.raft_node.declared.node.Turn.{Turn}
use Rattle.proof_deeds.specs.raft_calls.declared.lead.Answer.{Answer}
use Rattle.proof_deeds.specs.raft_node.Events.{Scene, answer_at, called_at, calls, calls_at, finish, moment_of, outcome_of, played, scene, scene_of, skip_reason, turn_of, with_answer, work_of}
use Rattle.proof_deeds.specs.raft_node.Execute.{Effects, decided_by, effects, exec, exec_committed, exec_payload, heartbeat, replicate_committed, replication, replies, sending, to_each}
use Rattle.proof_deeds.specs.raft_calls.Feeds.{feed}
use Rattle.proof_deeds.specs.raft_node.Net.{Records}
use Rattle.proof_deeds.specs.raft_node.Work.{Work, done_of, idle, one_less, step_of, stopped, stops, weight, work_step, worked}
use Rattle.proof_deeds.specs.raft_calls.Engines.{with_queue}
use Rattle.proof_deeds.specs.raft_node.Until.{until}
use Rattle.proof_servers.specs.Recorded.{decided_as, effects_behind, established_as, records_behind, scene_behind, work_behind}

-- a function that goes along with each step goes along with the whole loop
module _ {S T : Type 0} (done : S → Bool) (step : S → S) (done' : T → Bool) (step' : T → T) (f : S → T)
    (dones : (s : S) → done' (f s) ≡ done s) (steps : (s : S) → step' (f s) ≡ f (step s)) where
  pub until-along : (n : ℕ) (s : S) → until done' step' n (f s) ≡ f (until done step n s)
  until-along zero s = refl
  until-along (suc n) s = go (done s) refl (until-along n (step s))
    where
      go : (b : Bool) → done s ≡ b → until done' step' n (f (step s)) ≡ f (until done step n (step s)) → until done' step' (suc n) (f s) ≡ f (until done step (suc n) s)
      go true q along = rw (dones s, q) refl
      go false q along = rw (dones s, q) (ap (until done' step' n) (steps s) ∙ along)

module _ {L M : Type 0} (f : L → M) (r : Records M) (keep : List Entry → L) (t : Turn) where
  abbrev kept : List Entry → M
  kept es = f (keep es)

  sending_behind : (w : Effects L) (ms : List Message) → sending ms (effects_behind f r w) ≡ effects_behind f r (sending ms w)
  sending_behind w ms = ap (λ b. effects w.store w.streams w.noted (record (records_behind f r w.records) { bag = b })) (append_assoc r.bag w.records.bag ms)

  payload_behind : (c : WorldCommand) (p : WorldPayload) (w : Effects L) → exec_payload kept t c p (effects_behind f r w) ≡ effects_behind f r (exec_payload keep t c p w)
  payload_behind c BuildSnapshot w = refl
  payload_behind c (GetSnapshot tx) w = refl
  payload_behind c (BeginReceivingSnapshot tx) w = refl
  payload_behind c (InstallFullSnapshot s) w = ap (λ xs. (let done = exec_payload keep t c (InstallFullSnapshot s) w in effects done.store done.streams done.noted (record (records_behind f r done.records) { installed = xs }))) (append_assoc r.installed w.records.installed _)
  payload_behind c (Apply es) w = refl

  committed_behind : (x : Option (LogId ℕ)) (w : Effects L) → exec_committed kept t x (effects_behind f r w) ≡ effects_behind f r (exec_committed keep t x w)
  committed_behind x w = go w.streams.session_id
    where
      decided : (s : ReplicationSessionId ℕ) (o : Option (LogId ℕ))
          → map (decided_by kept s w.store) (option_to_list o) ≡ map (decided_as f) (map (decided_by keep s w.store) (option_to_list o))
      decided s None = refl
      decided s (Some y) = refl

      go : (o : Option (ReplicationSessionId ℕ))
          → (elim o as (λ _. Effects M) [ None ↦ effects_behind f r w | Some s ↦ replicate_committed kept t x s (effects_behind f r w) ])
          ≡ effects_behind f r (elim o as (λ _. Effects L) [ None ↦ w | Some s ↦ replicate_committed keep t x s w ])
      go None = refl
      go (Some s) =
          ap (λ (y : Effects M). record y { records = record y.records { decided = (r.decided ++ map (decided_as f) w.records.decided) ++ map (decided_by kept s w.store) (option_to_list x) } })
          (sending_behind w (to_each t.id w.streams.targets (heartbeat t s x)))
          ∙ ap (λ ds. (let told = sending (to_each t.id w.streams.targets (heartbeat t s x)) w in effects told.store told.streams told.noted (record (records_behind f r told.records) { decided = ds })))
          (ap (λ ds. (r.decided ++ map (decided_as f) w.records.decided) ++ ds) (decided s x)
          ∙ append_assoc r.decided (map (decided_as f) w.records.decided) (map (decided_as f) (map (decided_by keep s w.store) (option_to_list x)))
          ∙ ap (λ ds. r.decided ++ ds) (sym (map-append (decided_as f) w.records.decided (map (decided_by keep s w.store) (option_to_list x)))))

  pub exec_behind : (e : EngineView) (c : WorldCommand) (w : Effects L) → exec kept t e c (effects_behind f r w) ≡ effects_behind f r (exec keep t e c w)
  exec_behind e (SaveVote v) w = refl
  exec_behind e (AppendInputEntries v es) w = refl
  exec_behind e (DeleteConflictLog since) w = refl
  exec_behind e (PurgeLog upto) w = refl
  exec_behind e (Commit seq already upto) w =
      ap (λ xs. (let done = exec keep t e (Commit seq already upto) w in effects done.store done.streams done.noted (record (records_behind f r done.records) { executed = xs })))
      (append_assoc r.executed w.records.executed (map (λ x. record { node = t.id; entry = x }) (due w.store upto)))
  exec_behind e (StateMachine c) w = payload_behind (StateMachine c) c.payload w
  exec_behind e (SendVote req) w = sending_behind w _
  exec_behind e (RebuildReplicationStreams targets) w = refl
  exec_behind e (Replicate target req) w = go w.streams.session_id
    where
      go : (o : Option (ReplicationSessionId ℕ))
          → (elim o as (λ _. Effects M) [ None ↦ effects_behind f r w | Some s ↦ sending (to_each t.id (target ∷ []) (replication t s w.store req)) (effects_behind f r w) ])
          ≡ effects_behind f r (elim o as (λ _. Effects L) [ None ↦ w | Some s ↦ sending (to_each t.id (target ∷ []) (replication t s w.store req)) w ])
      go None = refl
      go (Some s) = sending_behind w _
  exec_behind e (ReplicateCommitted x) w = committed_behind x w
  exec_behind e (Respond when reply) w = sending_behind w (replies t reply)
  exec_behind e BecomeLeader w =
      ap (λ xs. (let done = exec keep t e BecomeLeader w in effects done.store done.streams done.noted (record (records_behind f r done.records) { established = xs })))
      (append_assoc r.established (map (established_as f) w.records.established) _
      ∙ ap (λ ds. r.established ++ ds) (sym (map-append (established_as f) w.records.established _)))
  exec_behind e QuitLeader w = refl

  done_behind : (w : Work L) (e : EngineView) (c : WorldCommand) → done_of kept t (work_behind f r w) e c ≡ work_behind f r (done_of keep t w e c)
  done_behind w e c = go (stops w.left)
    where
      go : (b : Bool)
          → (if b then stopped (exec kept t e c (effects_behind f r w.effects)) else record { engine = Some (feed t.moment c e); effects = exec kept t e c (effects_behind f r w.effects); left = one_less w.left })
          ≡ work_behind f r (if b then stopped (exec keep t e c w.effects) else record { engine = Some (feed t.moment c e); effects = exec keep t e c w.effects; left = one_less w.left })
      go true = ap stopped (exec_behind e c w.effects)
      go false = ap (λ (y : Effects M). record { engine = Some (feed t.moment c e); effects = y; left = one_less w.left }) (exec_behind e c w.effects)

  step_of_behind : (w : Work L) (e : EngineView) (o : Option WorldCommand) (q : Queue WorldCommand) → step_of kept t (work_behind f r w) e (o, q) ≡ work_behind f r (step_of keep t w e (o, q))
  step_of_behind w e None q = refl
  step_of_behind w e (Some c) q = done_behind w (with_queue e q) c

  pub step_behind : (w : Work L) → work_step kept t (work_behind f r w) ≡ work_behind f r (work_step keep t w)
  step_behind w = go w.engine
    where
      go : (o : Option EngineView)
          → (elim o as (λ _. Work M) [ None ↦ work_behind f r w | Some e ↦ step_of kept t (work_behind f r w) e (popped e.machine.core.output) ])
          ≡ work_behind f r (elim o as (λ _. Work L) [ None ↦ w | Some e ↦ step_of keep t w e (popped e.machine.core.output) ])
      go None = refl
      go (Some e) = step_of_behind w e (popped e.machine.core.output).0 (popped e.machine.core.output).1

  pub worked_behind : (n : ℕ) (w : Work L) → worked kept n t (work_behind f r w) ≡ work_behind f r (worked keep n t w)
  unfolding worked
  worked_behind n w = until-along idle (work_step keep t) idle (work_step kept t) (work_behind f r) (λ s. refl) step_behind n w

module _ {L M : Type 0} (f : L → M) (r : Records M) (keep : List Entry → L) (given : Given) (event : Event) where
  abbrev outcome_behind : Outcome × Scene L → Outcome × Scene M
  outcome_behind p = (p.0, scene_behind f r p.1)

  answer_behind : (answer : Option Answer) (q : Records L) → with_answer answer (records_behind f r q) ≡ records_behind f r (with_answer answer q)
  answer_behind answer q = ap (λ xs. record (records_behind f r q) { answers = xs }) (append_assoc r.answers q.answers (option_to_list answer))

  calls_behind : (act : Act) (s : Scene L) → calls given act (scene_behind f r s) ≡ (let c = calls given act s in (c.0, scene_behind f r c.1))
  calls_behind act s = ap (λ (q : Records M). ((calls_at given act s.node).0, scene (calls_at given act s.node).1 q)) (answer_behind (answer_at act (calls_at given act s.node).1) s.records)

  finish_behind : (t : Turn) (stop refusal : Option ℕ) (s : Scene L)
      → finish (λ es. f (keep es)) weight t stop refusal (scene_behind f r s) ≡ outcome_behind (finish keep weight t stop refusal s)
  unfolding finish
  finish_behind t stop refusal s =
      ap (λ (w : Work M). (outcome_of refusal w.engine, scene_of s.node w)) (worked_behind f r keep t (weight (work_of stop s)) (work_of stop s))

  -- the outcome and the node are the same, and the same is added to the records
  pub played_behind : (act : Act) (s : Scene L) → played (λ es. f (keep es)) weight given act event (scene_behind f r s) ≡ outcome_behind (played keep weight given act event s)
  unfolding played
  played_behind act s = go (skip_reason act s.node)
    where
      go : (o : Option SkipReason)
          → (elim o as (λ _. Outcome × Scene M) [
            | Some reason ↦ (Skipped reason, scene_behind f r s)
            | None ↦ finish (λ es. f (keep es)) weight (turn_of act (called_at (moment_of event s.node) s).node) event.stop
                (calls given act (called_at (moment_of event s.node) (scene_behind f r s))).0 (calls given act (called_at (moment_of event s.node) (scene_behind f r s))).1
          ])
          ≡ outcome_behind (elim o as (λ _. Outcome × Scene L) [
            | Some reason ↦ (Skipped reason, s)
            | None ↦ finish keep weight (turn_of act (called_at (moment_of event s.node) s).node) event.stop
                (calls given act (called_at (moment_of event s.node) s)).0 (calls given act (called_at (moment_of event s.node) s)).1
          ])
      go None =
          ap (λ (c : Option ℕ × Scene M). finish (λ es. f (keep es)) weight (turn_of act (called_at (moment_of event s.node) s).node) event.stop c.0 c.1)
          (calls_behind act (called_at (moment_of event s.node) s))
          ∙ finish_behind (turn_of act (called_at (moment_of event s.node) s).node) event.stop
          (calls given act (called_at (moment_of event s.node) s)).0 (calls given act (called_at (moment_of event s.node) s)).1
      go (Some reason) = refl
