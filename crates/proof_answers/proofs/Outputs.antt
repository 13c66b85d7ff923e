-- What a step executes, its state machine has taken within the step.
use Rattle.std.specs.Prelude.{◌≡◌, ◌<◌, ◌⊎◌, max, ℕ, Bool, true, false, List, [], ◌∷◌, map, Contains, Option, None, Some, refl, if◌then◌else◌}
use Rattle.std.proofs.Common.{inl, inr, ⊎_elim, sym, ap, subst, arith, zero, suc}
use Rattle.std.proofs.lemmas.List.Elements.{Contains-append_cases, Contains-append_right}
use Rattle.proof_deeds.specs.raft_state.declared.ids.LogId.{LogId}
use Rattle.proof_deeds.specs.raft_command.declared.command.Command.TheVariants.{AppendInputEntries, BecomeLeader, Commit, DeleteConflictLog, PurgeLog, QuitLeader, RebuildReplicationStreams, Replicate, ReplicateCommitted, Respond, SaveVote, SendVote, StateMachine}
use Rattle.proof_deeds.specs.raft_command.declared.replication.ReplicationSessionId.{ReplicationSessionId}
use Rattle.proof_deeds.specs.raft_command.declared.sm.CommandPayload.TheVariants.{BuildSnapshot, GetSnapshot, BeginReceivingSnapshot, InstallFullSnapshot, Apply}
use Rattle.proof_deeds.specs.raft_command.Queue.{Queue, popped}
use Rattle.proof_deeds.specs.raft_store.declared.entry.Entry.{Entry}
use Rattle.proof_deeds.specs.raft_store.Store.{due}
use Rattle.proof_deeds.specs.raft_store.Types.{EngineView, WorldCommand, WorldPayload}
use Rattle.proof_deeds.specs.raft_schedule.declared.event.Outcome.{Outcome}
use Rattle.proof_deeds.specs.raft_schedule.declared.event.Outcome.TheVariants.{Skipped}
use Rattle.proof_deeds.specs.raft_schedule.declared.event.SkipReason.{SkipReason}
use Rattle.proof_deeds.specs.raft_node.declared.given.Given.{Given}
use Rattle.proof_deeds.specs.raft_node.declared.node.Turn.{Turn}
use Rattle.proof_deeds.specs.raft_node.declared.record.Executed.{Executed}
use Rattle.proof_deeds.specs.raft_node.Events.{Scene, calls, finish, played, scene, skip_reason, turn_of, work_of}
use Rattle.proof_deeds.specs.raft_node.Execute.{Effects, exec, exec_committed, exec_payload, replicate_committed, replication, sending, to_each}
use Rattle.proof_deeds.specs.raft_node.Net.{NodeView, no_records}
use Rattle.proof_deeds.specs.raft_node.Runs.{whole_logs}
use Rattle.proof_deeds.specs.raft_node.Until.{until}
use Rattle.proof_deeds.specs.raft_node.Work.{Work, done_of, idle, one_less, step_of, stopped, stops, weight, work_step, worked}
use Rattle.proof_deeds.specs.raft_calls.Engines.{with_queue}
use Rattle.proof_deeds.specs.raft_calls.Feeds.{feed}
use Rattle.proof_servers.specs.Servers.{Step, outputs_of}
use Rattle.proof_servers.proofs.Included.{contains_map}
use Rattle.proof_answers.specs.Answers.{node_within}

module _ (t : Turn) (y : Executed) where
  -- what a command adds to the executed entries it has applied
  abbrev Adds : Effects (List Entry) → Effects (List Entry) → Type 0
  Adds old new = Contains new.records.executed y → Contains old.records.executed y ⊎ Contains new.store.applied y.entry

  entries_back : (xs : List Entry) → map (λ (r : Executed). r.entry) (map (λ (x : Entry). let r : Executed = record { node = t.id; entry = x } in r) xs) ≡ xs
  entries_back [] = refl
  entries_back (x ∷ xs) = ap (λ zs. x ∷ zs) (entries_back xs)

  payload_adds : (c : WorldCommand) (p : WorldPayload) (w : Effects (List Entry)) → Adds w (exec_payload whole_logs t c p w)
  payload_adds c BuildSnapshot w h = inl h
  payload_adds c (GetSnapshot tx) w h = inl h
  payload_adds c (BeginReceivingSnapshot tx) w h = inl h
  payload_adds c (InstallFullSnapshot s) w h = inl h
  payload_adds c (Apply es) w h = inl h

  committed_adds : (x : Option (LogId ℕ)) (w : Effects (List Entry)) → Adds w (exec_committed whole_logs t x w)
  committed_adds x w = go w.streams.session_id
    where
      go : (o : Option (ReplicationSessionId ℕ)) → Adds w (elim o as (λ _. Effects (List Entry)) [ None ↦ w | Some s ↦ replicate_committed whole_logs t x s w ])
      go None h = inl h
      go (Some s) h = inl h

  exec_adds : (e : EngineView) (c : WorldCommand) (w : Effects (List Entry)) → Adds w (exec whole_logs t e c w)
  exec_adds e (SaveVote v) w h = inl h
  exec_adds e (AppendInputEntries v es) w h = inl h
  exec_adds e (DeleteConflictLog since) w h = inl h
  exec_adds e (PurgeLog upto) w h = inl h
  exec_adds e (Commit seq already upto) w h =
      let news : List Executed = map (λ (x : Entry). let r : Executed = record { node = t.id; entry = x } in r) (due w.store upto) in
      ⊎_elim inl
      (λ k. inr (Contains-append_right w.store.applied (due w.store upto) y.entry (subst (λ xs. Contains xs y.entry) (entries_back (due w.store upto)) (contains_map (λ (r : Executed). r.entry) news y k))))
      (Contains-append_cases w.records.executed news y h)
  exec_adds e (StateMachine c) w h = payload_adds (StateMachine c) c.payload w h
  exec_adds e (SendVote req) w h = inl h
  exec_adds e (RebuildReplicationStreams targets) w h = inl h
  exec_adds e (Replicate target req) w h = go w.streams.session_id h
    where
      go : (o : Option (ReplicationSessionId ℕ)) → Adds w (elim o as (λ _. Effects (List Entry)) [ None ↦ w | Some s ↦ sending (to_each t.id (target ∷ []) (replication t s w.store req)) w ])
      go None h = inl h
      go (Some s) h = inl h
  exec_adds e (ReplicateCommitted x) w h = committed_adds x w h
  exec_adds e (Respond when reply) w h = inl h
  exec_adds e BecomeLeader w h = inl h
  exec_adds e QuitLeader w h = inl h

  abbrev effects_in : Work (List Entry) → Effects (List Entry)
  effects_in w = w.effects

  done_adds : (w : Work (List Entry)) (e : EngineView) (c : WorldCommand) → Adds w.effects (done_of whole_logs t w e c).effects
  done_adds w e c = go (stops w.left)
    where
      go : (b : Bool) → Adds w.effects (effects_in (if b then stopped (exec whole_logs t e c w.effects) else record { engine = Some (feed t.moment c e); effects = exec whole_logs t e c w.effects; left = one_less w.left }))
      go true h = exec_adds e c w.effects h
      go false h = exec_adds e c w.effects h

  step_adds : (w : Work (List Entry)) → Adds w.effects (work_step whole_logs t w).effects
  step_adds w = go w.engine
    where
      by_command : (e : EngineView) (o : Option WorldCommand) (q : Queue WorldCommand) → Adds w.effects (effects_in (step_of whole_logs t w e (o, q)))
      by_command e None q h = inl h
      by_command e (Some c) q h = done_adds w (with_queue e q) c h

      go : (o : Option EngineView) → Adds w.effects (effects_in (elim o as (λ _. Work (List Entry)) [ None ↦ w | Some e ↦ step_of whole_logs t w e (popped e.machine.core.output) ]))
      go None h = inl h
      go (Some e) h = by_command e (popped e.machine.core.output).0 (popped e.machine.core.output).1 h

  abbrev after : ℕ → Work (List Entry) → Work (List Entry)
  after n w = until idle (work_step whole_logs t) n w

  -- so it was applied after some command
  all_add : (n : ℕ) (w : Work (List Entry)) → Contains (after n w).effects.records.executed y → Contains w.effects.records.executed y ⊎ ((k : ℕ) × Contains (after k w).effects.store.applied y.entry)
  all_add zero w h = inl h
  all_add (suc n) w h = go (idle w) refl h (all_add n (work_step whole_logs t w))
    where
      one_more : (k : ℕ) → idle w ≡ false → Contains (after k (work_step whole_logs t w)).effects.store.applied y.entry → Contains (after (suc k) w).effects.store.applied y.entry
      one_more k q c = subst (λ (b : Bool). Contains (effects_in (if b then w else after k (work_step whole_logs t w))).store.applied y.entry) (sym q) c

      go : (b : Bool) → idle w ≡ b → Contains (effects_in (if b then w else after n (work_step whole_logs t w))).records.executed y
          → (Contains (after n (work_step whole_logs t w)).effects.records.executed y → Contains (work_step whole_logs t w).effects.records.executed y ⊎ ((k : ℕ) × Contains (after k (work_step whole_logs t w)).effects.store.applied y.entry))
          → Contains w.effects.records.executed y ⊎ ((k : ℕ) × Contains (after k w).effects.store.applied y.entry)
      go true q c rest = inl c
      go false q c rest =
          ⊎_elim
          (λ d. ⊎_elim inl (λ a. inr (1, one_more 0 q a)) (step_adds w d))
          (λ z. inr (suc z.0, one_more z.0 q z.1))
          (rest c)

abbrev pub executed_in : Outcome × Scene (List Entry) → List Executed
executed_in p = p.1.records.executed

abbrev pub applied_in : Outcome × Scene (List Entry) → List Entry
applied_in p = p.1.node.store.applied

abbrev in_step : Given → NodeView → Step → (Work (List Entry) → ℕ) → Option SkipReason → Outcome × Scene (List Entry)
in_step given n s f o =
    elim o as (λ _. Outcome × Scene (List Entry)) [
      | Some reason ↦ (Skipped reason, scene n no_records)
      | None ↦ finish whole_logs f (turn_of s.act (record n { moment = max s.at n.moment })) None
          (calls {L = List Entry} given s.act (scene (record n { moment = max s.at n.moment }) no_records)).0 (calls {L = List Entry} given s.act (scene (record n { moment = max s.at n.moment }) no_records)).1
    ]

-- what a step executes was applied after some of its commands
pub executed_applied : (given : Given) (n : NodeView) (s : Step) (y : Executed) → Contains (outputs_of given n s).executed y → (commands : ℕ) × Contains (node_within given n s commands).store.applied y.entry
unfolding played finish worked
executed_applied given n s y h = go (skip_reason s.act n) h
  where
    nothing : Contains {X = Executed} [] y → ⊥
    nothing c = let l : c.0 < 0 = c.1 in omega (arith, l)

    go : (o : Option SkipReason) → Contains (executed_in (in_step given n s weight o)) y → (commands : ℕ) × Contains (applied_in (in_step given n s (λ _. commands) o)) y.entry
    go (Some reason) c = absurd (nothing c)
    go None c =
        let t : Turn = turn_of s.act (record n { moment = max s.at n.moment }) in
        let w : Work (List Entry) = work_of None (calls {L = List Entry} given s.act (scene (record n { moment = max s.at n.moment }) no_records)).1 in
        ⊎_elim (λ d. absurd (nothing d)) (λ z. z) (all_add t y (weight w) w c)
