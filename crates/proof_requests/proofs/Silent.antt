-- Steps that read nothing say no answer; and after steps and flushes a server waits for the answers of those that wait.
use Rattle.std.proofs.Common.{ℕ, zero, suc, ◌≡◌, ◌≢◌, Bool, true, false, List, [], ◌∷◌, ◌++◌, take, map, refl, sym, ap, ◌∙◌, append-nil, append_assoc, Option, None, Some}
use Rattle.std.specs.Prelude.{if◌then◌else◌}
use Rattle.std.specs.List.{AllByRecursion}
use Rattle.std.specs.Option.{option_to_list}
use Rattle.raft_state.specs.declared.ids.LogId.{LogId}
use Rattle.raft_command.specs.declared.command.Command.TheVariants.{AppendInputEntries, BecomeLeader, Commit, DeleteConflictLog, PurgeLog, QuitLeader, RebuildReplicationStreams, Replicate, ReplicateCommitted, Respond, SaveVote, SendVote, StateMachine}
use Rattle.raft_command.specs.declared.replication.ReplicationSessionId.{ReplicationSessionId}
use Rattle.raft_command.specs.declared.sm.CommandPayload.TheVariants.{BuildSnapshot, GetSnapshot, BeginReceivingSnapshot, InstallFullSnapshot, Apply}
use Rattle.raft_command.specs.Queue.{Queue, popped}
use Rattle.raft_store.specs.declared.entry.Entry.{Entry}
use Rattle.raft_store.specs.Types.{EngineView, WorldCommand, WorldPayload}
use Rattle.raft_schedule.specs.declared.event.Outcome.{Outcome}
use Rattle.raft_schedule.specs.declared.event.Outcome.TheVariants.{Skipped}
use Rattle.raft_schedule.specs.declared.event.SkipReason.{SkipReason}
use Rattle.raft_schedule.specs.declared.event.Start.{Start}
use Rattle.raft_calls.specs.declared.lead.Answer.{Answer}
use Rattle.raft_node.specs.declared.act.Act.{Act}
use Rattle.raft_node.specs.declared.act.Act.TheVariants.{ChangeLearners, ChangeMembership, Elect, Fail, FinishSnapshot, Initialize, Propose, Read, Restart, SendHeartbeat, StepDown, Stop, Take, TriggerPurge, TriggerSnapshot}
use Rattle.raft_node.specs.declared.given.Given.{Given}
use Rattle.raft_node.specs.declared.node.Turn.{Turn}
use Rattle.raft_node.specs.Events.{Scene, answer_at, calls, calls_at, finish, played, scene, skip_reason, turn_of, work_of}
use Rattle.raft_node.specs.Execute.{Effects, exec, exec_committed, exec_payload, replicate_committed, replication, sending, to_each}
use Rattle.raft_node.specs.Net.{NodeView, no_records}
use Rattle.raft_node.specs.Runs.{whole_logs}
use Rattle.raft_node.specs.Work.{Work, done_of, one_less, step_of, stopped, stops, weight, work_step, worked}
use Rattle.raft_node.proofs.Worked.{worked-keeps}
use Rattle.raft_calls.specs.Engines.{with_queue}
use Rattle.raft_calls.specs.Feeds.{feed}
use Rattle.proof_servers.specs.Servers.{Cluster, Server, Step, Takes, WaitingStep, after_action, called_node, flushed, flushed_first, outputs_of, with_step}
use Rattle.proof_requests.specs.Actions.{after_steps}
use Rattle.proof_requests.specs.OnDisk.{flushed_from}
use Rattle.proof_requests.specs.ReadLaws.{answers_waiting}

module _ (t : Turn) where
  abbrev Silent : Effects (List Entry) → Type 0
  Silent w = w.records.answers ≡ []

  payload_silent : (c : WorldCommand) (p : WorldPayload) (w : Effects (List Entry)) → Silent w → Silent (exec_payload whole_logs t c p w)
  payload_silent c BuildSnapshot w h = h
  payload_silent c (GetSnapshot tx) w h = h
  payload_silent c (BeginReceivingSnapshot tx) w h = h
  payload_silent c (InstallFullSnapshot s) w h = h
  payload_silent c (Apply es) w h = h

  committed_silent : (x : Option (LogId ℕ)) (w : Effects (List Entry)) → Silent w → Silent (exec_committed whole_logs t x w)
  committed_silent x w h = go w.streams.session_id
    where
      go : (o : Option (ReplicationSessionId ℕ)) → Silent (elim o as (λ _. Effects (List Entry)) [ None ↦ w | Some s ↦ replicate_committed whole_logs t x s w ])
      go None = h
      go (Some s) = h

  exec_silent : (e : EngineView) (c : WorldCommand) (w : Effects (List Entry)) → Silent w → Silent (exec whole_logs t e c w)
  exec_silent e (SaveVote v) w h = h
  exec_silent e (AppendInputEntries v es) w h = h
  exec_silent e (DeleteConflictLog since) w h = h
  exec_silent e (PurgeLog upto) w h = h
  exec_silent e (Commit seq already upto) w h = h
  exec_silent e (StateMachine c) w h = payload_silent (StateMachine c) c.payload w h
  exec_silent e (SendVote req) w h = h
  exec_silent e (RebuildReplicationStreams targets) w h = h
  exec_silent e (Replicate target req) w h = go w.streams.session_id
    where
      go : (o : Option (ReplicationSessionId ℕ)) → Silent (elim o as (λ _. Effects (List Entry)) [ None ↦ w | Some s ↦ sending (to_each t.id (target ∷ []) (replication t s w.store req)) w ])
      go None = h
      go (Some s) = h
  exec_silent e (ReplicateCommitted x) w h = committed_silent x w h
  exec_silent e (Respond when reply) w h = h
  exec_silent e BecomeLeader w h = h
  exec_silent e QuitLeader w h = h

  abbrev effects_in : Work (List Entry) → Effects (List Entry)
  effects_in w = w.effects

  done_silent : (w : Work (List Entry)) (e : EngineView) (c : WorldCommand) → Silent w.effects → Silent (done_of whole_logs t w e c).effects
  done_silent w e c h = go (stops w.left)
    where
      go : (b : Bool) → Silent (effects_in (if b then stopped (exec whole_logs t e c w.effects) else record { engine = Some (feed t.moment c e); effects = exec whole_logs t e c w.effects; left = one_less w.left }))
      go true = exec_silent e c w.effects h
      go false = exec_silent e c w.effects h

  step_silent : (w : Work (List Entry)) → Silent w.effects → Silent (work_step whole_logs t w).effects
  step_silent w h = go w.engine
    where
      by_command : (e : EngineView) (o : Option WorldCommand) (q : Queue WorldCommand) → Silent (effects_in (step_of whole_logs t w e (o, q)))
      by_command e None q = h
      by_command e (Some c) q = done_silent w (with_queue e q) c h

      go : (o : Option EngineView) → Silent (effects_in (elim o as (λ _. Work (List Entry)) [ None ↦ w | Some e ↦ step_of whole_logs t w e (popped e.machine.core.output) ]))
      go None = h
      go (Some e) = by_command e (popped e.machine.core.output).0 (popped e.machine.core.output).1

  all_silent : (fuel : ℕ) (w : Work (List Entry)) → Silent w.effects → Silent (worked whole_logs fuel t w).effects
  all_silent fuel w h = worked-keeps whole_logs t (λ v. Silent v.effects) fuel (λ v busy k. step_silent v k) w h

-- only a read is answered
no_answer : (act : Act) (n : NodeView) → act ≢ Read → answer_at act n ≡ None
no_answer Initialize n h = refl
no_answer (Elect candidates) n h = refl
no_answer (Take m) n h = refl
no_answer (Propose values) n h = refl
no_answer SendHeartbeat n h = refl
no_answer (Fail target) n h = refl
no_answer TriggerSnapshot n h = refl
no_answer FinishSnapshot n h = refl
no_answer (TriggerPurge i) n h = refl
no_answer (Restart start) n h = refl
no_answer (ChangeLearners learners) n h = refl
no_answer (ChangeMembership groups learners) n h = refl
no_answer Read n h = absurd (h refl)
no_answer StepDown n h = refl
no_answer Stop n h = refl

abbrev answers_in : Outcome × Scene (List Entry) → List Answer
answers_in p = p.1.records.answers

-- a step that reads nothing says no answer
pub silent : (given : Given) (n : NodeView) (s : Step) → s.act ≢ Read → (outputs_of given n s).answers ≡ []
unfolding played finish
silent given n s h = go (skip_reason s.act n)
  where
    go : (o : Option SkipReason) → answers_in (elim o as (λ _. Outcome × Scene (List Entry)) [
      | Some reason ↦ (Skipped reason, scene n no_records)
      | None ↦ finish whole_logs weight (turn_of s.act (called_node s n)) None (calls {L = List Entry} given s.act (scene (called_node s n) no_records)).0
          (calls {L = List Entry} given s.act (scene (called_node s n) no_records)).1
    ]) ≡ []
    go (Some reason) = refl
    go None =
        let now : Scene (List Entry) = (calls {L = List Entry} given s.act (scene (called_node s n) no_records)).1 in
        all_silent (turn_of s.act (called_node s n)) (weight (work_of None now)) (work_of None now) (ap option_to_list (no_answer s.act (calls_at given s.act (called_node s n)).1 h))

-- what the steps that wait answer
pub answers_both : (ws us : List WaitingStep) → answers_waiting (ws ++ us) ≡ answers_waiting ws ++ answers_waiting us
answers_both [] us = refl
answers_both (w ∷ ws) us = ap (λ xs. w.outputs.answers ++ xs) (answers_both ws us) ∙ sym (append_assoc w.outputs.answers (answers_waiting ws) (answers_waiting us))

-- one more step
pub answers_step : (given : Given) (s : Server) (step : Step) → answers_waiting (with_step given step s).waiting ≡ answers_waiting s.waiting ++ (outputs_of given s.node step).answers
answers_step given s step =
    answers_both s.waiting _ ∙ ap (λ xs. answers_waiting s.waiting ++ xs) (append-nil (outputs_of given s.node step).answers)

-- acts that ask nothing, and start nothing
abbrev pub IsPlain : Act → Type 0
IsPlain act = (act ≢ Read) × ((start : Start) → act ≢ Restart start)

abbrev pub ArePlain : List Step → Type 0
ArePlain steps = AllByRecursion (λ (s : Step). IsPlain s.act) steps

pub answers_steps : (given : Given) (steps : List Step) (s : Server) → ArePlain steps
    → answers_waiting (after_steps given steps s).waiting ≡ answers_waiting s.waiting
answers_steps given [] s h = refl
answers_steps given (step ∷ steps) s h =
    answers_steps given steps (with_step given step s) h.1
    ∙ (answers_step given s step ∙ (ap (λ xs. answers_waiting s.waiting ++ xs) (silent given s.node step h.0.0) ∙ append-nil (answers_waiting s.waiting)))

-- what is on disk stays so while steps are taken
pub flushed_taking : (given : Given) (id : ℕ) (steps : List Step) (c : Cluster) (n : NodeView) → flushed_from given id (map (Takes id) steps) c n ≡ n
flushed_taking given id [] c n = refl
flushed_taking given id (s ∷ steps) c n = flushed_taking given id steps (after_action given (Takes id s) c) n

-- and flushes take the oldest
pub answers_flushed : (k : ℕ) (s : Server) → answers_waiting s.waiting ≡ answers_waiting (take k s.waiting) ++ answers_waiting (flushed_first k s).waiting
answers_flushed zero s = go s.waiting
  where
    go : (xs : List WaitingStep) → answers_waiting xs ≡ answers_waiting (take 0 xs) ++ answers_waiting xs
    go [] = refl
    go (x ∷ xs) = refl
answers_flushed (suc k) s = go s.waiting (λ u. answers_flushed k u)
  where
    go : (xs : List WaitingStep) → ((u : Server) → answers_waiting u.waiting ≡ answers_waiting (take k u.waiting) ++ answers_waiting (flushed_first k u).waiting)
        → answers_waiting xs ≡ answers_waiting (take (suc k) xs) ++ answers_waiting (elim xs as (λ _. Server) [ [] ↦ record s { waiting = xs } | w ∷ ws ↦ flushed_first k (flushed w ws s) ]).waiting
    go [] f = refl
    go (w ∷ ws) f =
        ap (λ xs. w.outputs.answers ++ xs) (f (flushed w ws s))
        ∙ sym (append_assoc w.outputs.answers (answers_waiting (take k ws)) (answers_waiting (flushed_first k (flushed w ws s)).waiting))
