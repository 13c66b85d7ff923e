-- What a step at a node makes of its store is what its record says, whatever the node.
use Rattle.std.proofs.Common.{ℕ, zero, suc, arith, ◌≡◌, ◌∙◌, List, [], ◌∷◌, Option, None, Some, refl, sym, ap}
use Rattle.std.specs.Prelude.{Bool, true, false, if◌then◌else◌, is_some, length, nat_eq}
use Rattle.std.proofs.lemmas.Bool.Decides.{nat_tests}
use Rattle.raft_command.specs.declared.command.Command.TheVariants as command
use Rattle.raft_command.specs.declared.replication.ReplicationSessionId.{ReplicationSessionId}
use Rattle.raft_command.specs.declared.sm.CommandPayload.TheVariants as payload
use Rattle.raft_command.specs.Queue.{Queue, popped}
use Rattle.raft_error.specs.declared.error.EngineError.{EngineError}
use Rattle.raft_steps.specs.Refusals.{refusals_of_spent}
use Rattle.raft_steps.specs.SnapshotCalls.{finish_building_snapshot}
use Rattle.std.specs.Ordering.{nat_cmp}
use Rattle.raft_store.specs.Types.{EngineView, WorldCommand, WorldPayload}
use Rattle.raft_schedule.specs.declared.event.Event.{Event}
use Rattle.raft_schedule.specs.declared.event.EventKind.TheVariants as event
use Rattle.raft_schedule.specs.declared.event.Outcome.{Outcome}
use Rattle.raft_schedule.specs.declared.event.Outcome.TheVariants.{Skipped}
use Rattle.raft_schedule.specs.declared.event.SkipReason.{SkipReason}
use Rattle.raft_schedule.specs.declared.event.Start.{Start}
use Rattle.raft_schedule.specs.declared.event.Start.TheVariants.{Plain, Saved, Bare}
use Rattle.raft_node.specs.declared.act.Act.{Act}
use Rattle.raft_node.specs.declared.act.Act.TheVariants.{Initialize, Elect, Take, Propose, SendHeartbeat, Fail, TriggerSnapshot, FinishSnapshot}
use Rattle.raft_node.specs.declared.act.Act.TheVariants.{TriggerPurge, Restart, ChangeLearners, ChangeMembership, Read, StepDown, Stop}
use Rattle.raft_node.specs.declared.given.Given.{Given}
use Rattle.raft_node.specs.declared.node.Turn.{Turn}
use Rattle.raft_node.specs.Commands.{next_command_of}
use Rattle.raft_node.specs.Events.{moment_of, skip_reason, turn_of}
use Rattle.raft_node.specs.Until.{until}
use Rattle.raft_node.specs.Work.{is_idle, one_less, stops}
use Rattle.raft_calls.specs.Feeds.{feed}
use Rattle.raft_calls.specs.Deliveries.{answered, with_machine}
use Rattle.raft_calls.specs.Engines.{with_queue}
use Rattle.raft_calls.specs.Weights.{weight_at}
use Rattle.proof_logs.specs.proof_servers.Servers.{event_at}
use Rattle.proof_packed.specs.Nodes.{PackedEffects, PackedNode, PackedScene, PackedWork, node_exec, node_exec_payload, packed_called_at}
use Rattle.proof_packed.specs.Nodes.{packed_calls, packed_calls_at, packed_done_of, packed_finish, packed_finish_snapshot, packed_idle, packed_kept_built}
use Rattle.proof_packed.specs.Nodes.{packed_played, packed_replicate_committed, packed_replication, packed_sending, packed_step_of}
use Rattle.proof_packed.specs.Nodes.{packed_stopped, packed_to_each, packed_work_of, packed_work_step, packed_worked, without_store}
use Rattle.proof_packed.specs.Records.{packed_exec_all, packed_executed}
use Rattle.proof_packed.specs.Stores.{Application, Packed, PackedStore, packed_exec, packed_exec_payload, packed_meta}
use Rattle.raft_packed_wire.specs.raft_packed_node.Effects.{nothing_recorded, scene}
use Rattle.raft_packed_wire.specs.declared.record.PackedBegan.{PackedBegan}
use Rattle.raft_packed_wire.specs.declared.record.PackedBegan.TheVariants.{Unchanged, Settled, Built}
use Rattle.raft_packed_wire.specs.Records.{packed_begun, packed_on_disk, packed_stepped}
use Rattle.raft_packed_wire.proofs.Replays.{begun_same, same_done}
use Rattle.proof_packed_servers.specs.Servers.{PackedStep, packed_call_effect, packed_node_after, packed_step_began, packed_step_commands}

never_none : (n : ℕ) → nat_eq (suc n) 0 ≡ true → ⊥
never_none n h = grind (arith, nat_tests)

idle_none : (o : Option EngineView) → is_idle o ≡ true → next_command_of o ≡ None
idle_none None h = refl
idle_none (Some e) h = go e.machine.core.output.items h
  where
    go : (cs : List WorldCommand) → nat_eq (length cs) 0 ≡ true → (popped (record e.machine.core.output { items = cs })).0 ≡ None
    go [] h = refl
    go (c ∷ cs) h = absurd (never_none (length cs) h)

busy_some : (o : Option EngineView) → is_idle o ≡ false → (c : WorldCommand) × (next_command_of o ≡ Some c)
busy_some None h = absurd cc
busy_some (Some e) h = go e.machine.core.output.items h
  where
    go : (cs : List WorldCommand) → nat_eq (length cs) 0 ≡ false → (c : WorldCommand) × ((popped (record e.machine.core.output { items = cs })).0 ≡ Some c)
    go [] h = absurd cc
    go (c ∷ cs) h = (c, refl)

module _ {S : Type 0} (app : Application S) where
  -- ---- a command

  module _ (t : Turn) (brought : Packed S) where
    payload_stores : (c : WorldCommand) (p : WorldPayload) (w : PackedEffects S) → packed_exec app brought c w.store ≡ packed_exec_payload app brought p w.store
        → (node_exec_payload app t brought c p w).store ≡ packed_exec_payload app brought p w.store
    payload_stores c payload.BuildSnapshot w e = refl
    payload_stores c (payload.GetSnapshot _) w e = refl
    payload_stores c (payload.BeginReceivingSnapshot _) w e = refl
    payload_stores c (payload.InstallFullSnapshot s) w e = e
    payload_stores c (payload.Apply _) w e = refl

    -- it makes of the store what the command does
    command_stores : (e : EngineView) (c : WorldCommand) (w : PackedEffects S) → (node_exec app t brought e c w).store ≡ packed_exec app brought c w.store
    command_stores e (command.SaveVote v) w = refl
    command_stores e (command.AppendInputEntries v es) w = refl
    command_stores e (command.DeleteConflictLog since) w = refl
    command_stores e (command.PurgeLog upto) w = refl
    command_stores e (command.Commit seq already upto) w = refl
    command_stores e (command.StateMachine c) w = payload_stores (command.StateMachine c) c.payload w refl
    command_stores e command.BecomeLeader w = refl
    command_stores e command.QuitLeader w = refl
    command_stores e (command.ReplicateCommitted committed) w = go w.streams.session_id
      where
        go : (o : Option (ReplicationSessionId ℕ))
            → (elim o as (λ _. PackedEffects S) [ None ↦ w | Some s ↦ packed_replicate_committed app t committed s w ]).store ≡ w.store
        go None = refl
        go (Some s) = refl
    command_stores e (command.Replicate target req) w = go w.streams.session_id
      where
        go : (o : Option (ReplicationSessionId ℕ))
            → (elim o as (λ _. PackedEffects S) [
              | None ↦ w
              | Some s ↦ packed_sending app (packed_to_each app t.id (target ∷ []) (packed_replication app t s w.store req)) w
            ]).store ≡ w.store
        go None = refl
        go (Some s) = refl
    command_stores e (command.RebuildReplicationStreams targets) w = refl
    command_stores e (command.SendVote req) w = refl
    command_stores e (command.Respond when reply) w = refl

    -- ---- the queue

    done_stores : (w : PackedWork S) (e : EngineView) (c : WorldCommand) → (packed_done_of app t brought w e c).effects.store ≡ packed_exec app brought c w.effects.store
    done_stores w e c =
        go (stops w.left) ∙ command_stores e c w.effects
      where
        after : PackedEffects S
        after = node_exec app t brought e c w.effects

        ended : Bool → PackedWork S
        ended b = if b then packed_stopped app t brought after else record { engine = Some (feed t.moment c e); effects = after; left = one_less w.left }

        go : (b : Bool) → (ended b).effects.store ≡ after.store
        go true = refl
        go false = refl

    step_stores : (w : PackedWork S) (c : WorldCommand) → next_command_of w.engine ≡ Some c
        → (packed_work_step app t brought w).effects.store ≡ packed_exec app brought c w.effects.store
    step_stores w c is = go w.engine is
      where
        pop : (e : EngineView) (o : Option WorldCommand) (q : Queue WorldCommand) → o ≡ Some c
            → (packed_step_of app t brought w e (o, q)).effects.store ≡ packed_exec app brought c w.effects.store
        pop e None q is = absurd cc
        pop e (Some x) q is =
            let same : x ≡ c = cc in done_stores w (with_queue e q) x ∙ ap (λ y. packed_exec app brought y w.effects.store) same

        go : (o : Option EngineView) → next_command_of o ≡ Some c
            → (elim o as (λ _. PackedWork S) [ None ↦ w | Some e ↦ packed_step_of app t brought w e (popped e.machine.core.output) ]).effects.store
            ≡ packed_exec app brought c w.effects.store
        go None is = absurd cc
        go (Some e) is = pop e (popped e.machine.core.output).0 (popped e.machine.core.output).1 is

    -- it makes of the store what its commands do
    queue_stores : (n : ℕ) (w : PackedWork S)
        → (until (packed_idle app t brought) (packed_work_step app t brought) n w).effects.store
        ≡ packed_exec_all app brought w.effects.store (packed_executed app t brought n w)
    queue_stores zero w = refl
    queue_stores (suc n) w = go (packed_idle app t brought w) refl (queue_stores n (packed_work_step app t brought w))
      where
        next : PackedWork S
        next = packed_work_step app t brought w

        chosen : Option WorldCommand → List WorldCommand
        chosen o = elim o [ None ↦ [] | Some c ↦ c ∷ packed_executed app t brought n next ]

        go : (b : Bool) → packed_idle app t brought w ≡ b
            → (until (packed_idle app t brought) (packed_work_step app t brought) n next).effects.store
            ≡ packed_exec_all app brought next.effects.store (packed_executed app t brought n next)
            → (if b then w else until (packed_idle app t brought) (packed_work_step app t brought) n next).effects.store
            ≡ packed_exec_all app brought w.effects.store (chosen (next_command_of w.engine))
        go true h rest = ap (λ o. packed_exec_all app brought w.effects.store (chosen o)) (sym (idle_none w.engine h))
        go false h rest =
            let first = busy_some w.engine h in
            rest
            ∙ (ap (λ (u : PackedStore S). packed_exec_all app brought u (packed_executed app t brought n next)) (step_stores w first.0 first.1)
            ∙ ap (λ o. packed_exec_all app brought w.effects.store (chosen o)) (sym first.1))

  -- commands do the same to stores that are the same on disk
  commands_same : (brought : Packed S) (cs : List WorldCommand) (t u : PackedStore S) → packed_on_disk app t ≡ packed_on_disk app u
      → packed_on_disk app (packed_exec_all app brought t cs) ≡ packed_on_disk app (packed_exec_all app brought u cs)
  commands_same brought [] t u h = h
  commands_same brought (c ∷ cs) t u h =
      commands_same brought cs (packed_exec app brought c t) (packed_exec app brought c u) (same_done app brought c t u h)

  -- ---- an act's calls

  module _ (given : Given) where
    finish_stores : (o : Option EngineView) (q : Option (Packed S)) (n : PackedNode S)
        → (packed_finish_snapshot app (record n { engine = o; noted = q })).1.store
        ≡ packed_begun app (packed_call_effect FinishSnapshot (record n { engine = o; noted = q })) n.store
    finish_stores None q n = refl
    finish_stores (Some e) None n = refl
    finish_stores (Some e) (Some p) n = go (refusals_of_spent e.machine)
      where
        node : PackedNode S
        node = record n { engine = Some e; noted = Some p }

        go : (r : Option (EngineError ℕ (Unit {0})))
            → (packed_kept_built app p node (answered r e (with_machine e (finish_building_snapshot nat_cmp e.config (packed_meta p) e.machine)))).1.store
            ≡ packed_begun app (if is_some r then Unchanged else Built p) n.store
        go None = refl
        go (Some k) = refl

    start_stores : (start : Start) (n : PackedNode S)
        → packed_on_disk app (packed_calls_at app given (Restart start) n).1.store ≡ packed_on_disk app (packed_begun app Settled n.store)
    start_stores Plain n = refl
    start_stores Saved n = refl
    start_stores Bare n = begun_same app Settled (record n.store { saved = None }) n.store refl

    calls_store : (act : Act) (moment : ℕ) (n : PackedNode S)
        → packed_on_disk app (packed_calls_at app given act (record n { moment = moment })).1.store
        ≡ packed_on_disk app (packed_begun app (packed_call_effect act n) n.store)
    calls_store Initialize moment n = refl
    calls_store (Elect candidates) moment n = refl
    calls_store (Take m) moment n = refl
    calls_store (Propose values) moment n = refl
    calls_store SendHeartbeat moment n = refl
    calls_store (Fail target) moment n = refl
    calls_store TriggerSnapshot moment n = refl
    calls_store FinishSnapshot moment n = ap (packed_on_disk app) (finish_stores n.engine n.noted (record n { moment = moment }))
    calls_store (TriggerPurge i) moment n = refl
    calls_store (Restart start) moment n = start_stores start (record n { moment = moment })
    calls_store (ChangeLearners learners) moment n = refl
    calls_store (ChangeMembership groups learners) moment n = refl
    calls_store Read moment n = refl
    calls_store StepDown moment n = refl
    calls_store Stop moment n = refl

    -- ---- a step

    pub step_stored : (n : PackedNode S) (s : PackedStep S)
        → packed_on_disk app (packed_node_after app given n s).store
        ≡ packed_on_disk app (packed_stepped app (packed_step_began app n s) s.brought (packed_step_commands app given n s) n.store)
    unfolding packed_played packed_finish packed_worked
    step_stored n s = go (skip_reason s.act (without_store app n))
      where
        at : Event
        at = event_at (event.Read 0) s.at

        moment : ℕ
        moment = moment_of at (without_store app n)

        begins : PackedScene S
        begins = packed_called_at app moment (scene n nothing_recorded)

        called : PackedScene S
        called = (packed_calls app given s.act begins).1

        work : PackedWork S
        work = packed_work_of app at.stop called

        turn : Turn
        turn = turn_of s.act (without_store app begins.node)

        commands : List WorldCommand
        commands = packed_executed app turn s.brought (weight_at work.engine) work

        go : (o : Option SkipReason)
            → packed_on_disk app (elim o as (λ _. Outcome × PackedScene S) [
              | Some reason ↦ (Skipped reason, scene n nothing_recorded)
              | None ↦ packed_finish app turn s.brought at.stop (packed_calls app given s.act begins).0 called
            ]).1.node.store
            ≡ packed_on_disk app (packed_stepped app (elim o as (λ _. PackedBegan (Packed S)) [ Some reason ↦ Unchanged | None ↦ packed_call_effect s.act n ])
            s.brought (elim o as (λ _. List WorldCommand) [ Some reason ↦ [] | None ↦ commands ]) n.store)
        go (Some reason) = refl
        go None =
            ap (packed_on_disk app) (queue_stores turn s.brought (weight_at work.engine) work)
            ∙ commands_same s.brought commands called.node.store (packed_begun app (packed_call_effect s.act n) n.store) (calls_store s.act moment n)
