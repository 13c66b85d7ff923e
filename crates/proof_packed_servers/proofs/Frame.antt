-- A step does the same whatever was said before: what it says itself stands behind that.
use Rattle.std.specs.Prelude.{◌≡◌, ℕ, Bool, true, false, List, [], ◌∷◌, ◌++◌, map, Option, None, Some, refl, if◌then◌else◌}
use Rattle.std.specs.Option.{option_to_list}
use Rattle.std.proofs.Common.{◌∙◌, ap, sym, zero, suc}
use Rattle.std.proofs.lemmas.List.{append_assoc, append-nil}
use Rattle.proof_packed.specs.raft_state.declared.ids.LogId.{LogId}
use Rattle.proof_packed.specs.raft_command.declared.command.Command.TheVariants.{AppendInputEntries, BecomeLeader, Commit, DeleteConflictLog, PurgeLog, QuitLeader}
use Rattle.proof_packed.specs.raft_command.declared.command.Command.TheVariants.{RebuildReplicationStreams, Replicate, ReplicateCommitted, Respond, SaveVote}
use Rattle.proof_packed.specs.raft_command.declared.command.Command.TheVariants.{SendVote, StateMachine}
use Rattle.proof_packed.specs.raft_command.declared.replication.ReplicationSessionId.{ReplicationSessionId}
use Rattle.proof_packed.specs.raft_command.declared.sm.CommandPayload.TheVariants.{BuildSnapshot, GetSnapshot, BeginReceivingSnapshot, InstallFullSnapshot, Apply}
use Rattle.proof_packed.specs.raft_command.Queue.{Queue, popped}
use Rattle.proof_packed.specs.raft_store.Types.{WorldCommand, WorldPayload, EngineView}
use Rattle.proof_packed.specs.raft_schedule.declared.event.EventKind.TheVariants as event
use Rattle.proof_packed.specs.raft_schedule.declared.event.Event.{Event}
use Rattle.proof_packed.specs.raft_schedule.declared.event.Outcome.{Outcome}
use Rattle.proof_packed.specs.raft_schedule.declared.event.Outcome.TheVariants.{Skipped}
use Rattle.proof_packed.specs.raft_schedule.declared.event.SkipReason.{SkipReason}
use Rattle.proof_packed.specs.raft_calls.declared.lead.Answer.{Answer}
use Rattle.proof_packed.specs.raft_calls.Engines.{with_queue}
use Rattle.proof_packed.specs.raft_calls.Feeds.{feed}
use Rattle.proof_packed.specs.raft_calls.Weights.{weight_at}
use Rattle.proof_packed.specs.raft_node.declared.act.Act.{Act}
use Rattle.proof_packed.specs.raft_node.declared.given.Given.{Given}
use Rattle.proof_packed.specs.raft_node.declared.node.Turn.{Turn}
use Rattle.proof_packed.specs.raft_node.declared.record.Decided.{Decided}
use Rattle.proof_packed.specs.raft_node.declared.record.Established.{Established}
use Rattle.proof_packed.specs.raft_node.declared.record.Executed.{Executed}
use Rattle.proof_packed.specs.raft_node.Commands.{next_command_of}
use Rattle.proof_packed.specs.raft_node.Events.{answer_at, moment_of, outcome_of, skip_reason, turn_of}
use Rattle.proof_packed.specs.raft_node.Execute.{heartbeat, replies}
use Rattle.proof_packed.specs.raft_node.Work.{one_less, stops}
use Rattle.proof_servers.specs.Servers.{event_at}
use Rattle.proof_servers.proofs.Frame.{until-along}
use Rattle.proof_packed.specs.Nodes.{PackedEffects, PackedInstalled, PackedMessage, PackedNode, PackedRecords, PackedScene, PackedWork}
use Rattle.proof_packed.specs.Nodes.{node_exec, node_exec_payload, of_no_entries, packed_called_at, packed_calls, packed_calls_at, packed_done_of}
use Rattle.proof_packed.specs.Nodes.{packed_finish, packed_idle, packed_played, packed_replicate_committed, packed_replication, packed_scene_of}
use Rattle.proof_packed.specs.Nodes.{packed_sending, packed_step_of, packed_stopped, packed_storing, packed_to_each, packed_with_answer}
use Rattle.proof_packed.specs.Nodes.{packed_work_of, packed_work_step, packed_worked, plain_message, without_store}
use Rattle.proof_packed.specs.Records.{packed_commands_at, packed_executed}
use Rattle.proof_packed.specs.Stores.{Application, Packed, packed_due}
use Rattle.proof_packed_nodes.specs.raft_packed_node.Effects.{nothing_recorded, scene}
use Rattle.proof_packed_servers.specs.Servers.{PackedStep, packed_joined, packed_played_alone, packed_step_commands}

module _ {S : Type 0} (q : PackedRecords S) where
  abbrev pub effects_behind : PackedEffects S → PackedEffects S
  effects_behind w = record w { records = packed_joined q w.records }

  abbrev pub work_behind : PackedWork S → PackedWork S
  work_behind w = record w { effects = effects_behind w.effects }

  abbrev pub scene_behind : PackedScene S → PackedScene S
  scene_behind s = record s { records = packed_joined q s.records }

  abbrev pub outcome_behind : Outcome × PackedScene S → Outcome × PackedScene S
  outcome_behind p = (p.0, scene_behind p.1)

  -- more is said, of one kind
  executing_behind : (w : PackedEffects S) (xs : List Executed)
      → record w { records = record (packed_joined q w.records) { executed = (q.executed ++ w.records.executed) ++ xs } }
      ≡ effects_behind (record w { records = record w.records { executed = w.records.executed ++ xs } })
  executing_behind w xs =
      ap (λ all. record w { records = record (packed_joined q w.records) { executed = all } }) (append_assoc q.executed w.records.executed xs)

  installing_behind : (w : PackedEffects S) (xs : List (PackedInstalled S))
      → record w { records = record (packed_joined q w.records) { installed = (q.installed ++ w.records.installed) ++ xs } }
      ≡ effects_behind (record w { records = record w.records { installed = w.records.installed ++ xs } })
  installing_behind w xs =
      ap (λ all. record w { records = record (packed_joined q w.records) { installed = all } }) (append_assoc q.installed w.records.installed xs)

  deciding_behind : (w : PackedEffects S) (xs : List (Decided (Unit {0})))
      → record w { records = record (packed_joined q w.records) { decided = (q.decided ++ w.records.decided) ++ xs } }
      ≡ effects_behind (record w { records = record w.records { decided = w.records.decided ++ xs } })
  deciding_behind w xs =
      ap (λ all. record w { records = record (packed_joined q w.records) { decided = all } }) (append_assoc q.decided w.records.decided xs)

  establishing_behind : (w : PackedEffects S) (xs : List (Established (Unit {0})))
      → record w { records = record (packed_joined q w.records) { established = (q.established ++ w.records.established) ++ xs } }
      ≡ effects_behind (record w { records = record w.records { established = w.records.established ++ xs } })
  establishing_behind w xs =
      ap (λ all. record w { records = record (packed_joined q w.records) { established = all } })
      (append_assoc q.established w.records.established xs)

  -- what is done of a leader's session, if there is one
  session_behind : (o : Option (ReplicationSessionId ℕ)) (w : PackedEffects S) (f : ReplicationSessionId ℕ → PackedEffects S → PackedEffects S)
      → ((s : ReplicationSessionId ℕ) → f s (effects_behind w) ≡ effects_behind (f s w))
      → (elim o as (λ _. PackedEffects S) [ None ↦ effects_behind w | Some s ↦ f s (effects_behind w) ])
      ≡ effects_behind (elim o as (λ _. PackedEffects S) [ None ↦ w | Some s ↦ f s w ])
  session_behind None w f each = refl
  session_behind (Some s) w f each = each s

  -- nothing
  none_behind : packed_joined q nothing_recorded ≡ q
  none_behind = λ i. record {
    bag = append-nil q.bag i;
    executed = append-nil q.executed i;
    installed = append-nil q.installed i;
    decided = append-nil q.decided i;
    established = append-nil q.established i;
    answers = append-nil q.answers i;
  }

module _ {S : Type 0} (app : Application S) (q : PackedRecords S) where
  sending_behind : (w : PackedEffects S) (ms : List (PackedMessage S))
      → packed_sending app ms (effects_behind q w) ≡ effects_behind q (packed_sending app ms w)
  sending_behind w ms = ap (λ bag. record w { records = record (packed_joined q w.records) { bag = bag } }) (append_assoc q.bag w.records.bag ms)

  answering_behind : (answer : Option Answer) (r : PackedRecords S)
      → packed_with_answer app answer (packed_joined q r) ≡ packed_joined q (packed_with_answer app answer r)
  answering_behind answer r =
      ap (λ all. record (packed_joined q r) { answers = all }) (append_assoc q.answers r.answers (option_to_list answer))

  module _ (t : Turn) (brought : Packed S) where
    committed_behind : (x : Option (LogId ℕ)) (w : PackedEffects S) (s : ReplicationSessionId ℕ)
        → packed_replicate_committed app t x s (effects_behind q w) ≡ effects_behind q (packed_replicate_committed app t x s w)
    committed_behind x w s =
        let ms : List (PackedMessage S) = packed_to_each app t.id w.streams.targets (heartbeat t s x, of_no_entries app) in
        let ds : List (Decided (Unit {0})) = map (λ y. record { leader_id = s.vote.leader_id; log_id = y; log = tt }) (option_to_list x) in
        ap (λ (r : PackedEffects S). record r { records = record r.records { decided = (q.decided ++ w.records.decided) ++ ds } })
        (sending_behind w ms)
        ∙ deciding_behind q (packed_sending app ms w) ds

    payload_behind : (c : WorldCommand) (p : WorldPayload) (w : PackedEffects S)
        → node_exec_payload app t brought c p (effects_behind q w) ≡ effects_behind q (node_exec_payload app t brought c p w)
    payload_behind c BuildSnapshot w = refl
    payload_behind c (GetSnapshot tx) w = refl
    payload_behind c (BeginReceivingSnapshot tx) w = refl
    payload_behind c (InstallFullSnapshot s) w =
        installing_behind q (packed_storing app t brought c w) (record { node = t.id; snapshot = brought } ∷ [])
    payload_behind c (Apply es) w = refl

    exec_behind : (e : EngineView) (c : WorldCommand) (w : PackedEffects S)
        → node_exec app t brought e c (effects_behind q w) ≡ effects_behind q (node_exec app t brought e c w)
    exec_behind e (SaveVote v) w = refl
    exec_behind e (AppendInputEntries v es) w = refl
    exec_behind e (DeleteConflictLog since) w = refl
    exec_behind e (PurgeLog upto) w = refl
    exec_behind e (Commit seq already upto) w =
        executing_behind q (packed_storing app t brought (Commit seq already upto) w)
        (map (λ x. record { node = t.id; entry = x }) (packed_due w.store upto))
    exec_behind e (StateMachine c) w = payload_behind (StateMachine c) c.payload w
    exec_behind e (SendVote req) w = sending_behind w _
    exec_behind e (RebuildReplicationStreams targets) w = refl
    exec_behind e (Replicate target req) w =
        session_behind q w.streams.session_id w
        (λ s x. packed_sending app (packed_to_each app t.id (target ∷ []) (packed_replication app t s w.store req)) x)
        (λ s. sending_behind w (packed_to_each app t.id (target ∷ []) (packed_replication app t s w.store req)))
    exec_behind e (ReplicateCommitted x) w =
        session_behind q w.streams.session_id w (packed_replicate_committed app t x) (committed_behind x w)
    exec_behind e (Respond when reply) w = sending_behind w (map (plain_message app) (replies t reply))
    exec_behind e BecomeLeader w =
        establishing_behind q w (record { leader_id = e.machine.core.state.vote.leader_id; log = tt } ∷ [])
    exec_behind e QuitLeader w = refl

    -- what comes of a command
    abbrev gone_on : Bool → EngineView → Option ℕ → PackedEffects S → PackedWork S
    gone_on stop e left w = if stop then packed_stopped app t brought w else record { engine = Some e; effects = w; left = left }

    gone_on_behind : (stop : Bool) (e : EngineView) (left : Option ℕ) (w : PackedEffects S)
        → gone_on stop e left (effects_behind q w) ≡ work_behind q (gone_on stop e left w)
    gone_on_behind true e left w = refl
    gone_on_behind false e left w = refl

    done_behind : (w : PackedWork S) (e : EngineView) (c : WorldCommand)
        → packed_done_of app t brought (work_behind q w) e c ≡ work_behind q (packed_done_of app t brought w e c)
    done_behind w e c =
        ap (gone_on (stops w.left) (feed t.moment c e) (one_less w.left)) (exec_behind e c w.effects)
        ∙ gone_on_behind (stops w.left) (feed t.moment c e) (one_less w.left) (node_exec app t brought e c w.effects)

    step_of_behind : (w : PackedWork S) (e : EngineView) (o : Option WorldCommand) (rest : Queue WorldCommand)
        → packed_step_of app t brought (work_behind q w) e (o, rest) ≡ work_behind q (packed_step_of app t brought w e (o, rest))
    step_of_behind w e None rest = refl
    step_of_behind w e (Some c) rest = done_behind w (with_queue e rest) c

    engine_behind : (o : Option EngineView) (w : PackedWork S)
        → (elim o as (λ _. PackedWork S) [
          | None ↦ work_behind q w
          | Some e ↦ packed_step_of app t brought (work_behind q w) e (popped e.machine.core.output)
        ])
        ≡ work_behind q (elim o as (λ _. PackedWork S) [
          | None ↦ w
          | Some e ↦ packed_step_of app t brought w e (popped e.machine.core.output)
        ])
    engine_behind None w = refl
    engine_behind (Some e) w = step_of_behind w e (popped e.machine.core.output).0 (popped e.machine.core.output).1

    step_behind : (w : PackedWork S) → packed_work_step app t brought (work_behind q w) ≡ work_behind q (packed_work_step app t brought w)
    step_behind w = engine_behind w.engine w

    worked_behind : (n : ℕ) (w : PackedWork S)
        → packed_worked app t brought n (work_behind q w) ≡ work_behind q (packed_worked app t brought n w)
    unfolding packed_worked
    worked_behind n w =
        until-along (packed_idle app t brought) (packed_work_step app t brought) (packed_idle app t brought) (packed_work_step app t brought)
        (work_behind q) (λ s. refl) step_behind n w

    commanded_behind : (o : Option WorldCommand) (xs ys : List WorldCommand) → xs ≡ ys
        → (elim o as (λ _. List WorldCommand) [ None ↦ [] | Some c ↦ c ∷ xs ]) ≡ (elim o as (λ _. List WorldCommand) [ None ↦ [] | Some c ↦ c ∷ ys ])
    commanded_behind None xs ys same = refl
    commanded_behind (Some c) xs ys same = ap (λ cs. c ∷ cs) same

    executed_behind : (n : ℕ) (w : PackedWork S) → packed_executed app t brought n (work_behind q w) ≡ packed_executed app t brought n w
    executed_behind zero w = refl
    executed_behind (suc n) w =
        commanded_behind (next_command_of w.engine) (packed_executed app t brought n (packed_work_step app t brought (work_behind q w)))
        (packed_executed app t brought n (packed_work_step app t brought w))
        (ap (packed_executed app t brought n) (step_behind w) ∙ executed_behind n (packed_work_step app t brought w))

    finish_behind : (stop refusal : Option ℕ) (s : PackedScene S)
        → packed_finish app t brought stop refusal (scene_behind q s) ≡ outcome_behind q (packed_finish app t brought stop refusal s)
    unfolding packed_finish
    finish_behind stop refusal s =
        ap (λ (w : PackedWork S). (outcome_of refusal w.engine, packed_scene_of app s.node w))
        (worked_behind (weight_at s.node.engine) (packed_work_of app stop s))

  -- what calls left, and an answer
  abbrev told : Act → PackedRecords S → Option ℕ × PackedNode S → Option ℕ × PackedScene S
  told act r c = (c.0, scene c.1 (packed_with_answer app (answer_at act (without_store app c.1)) r))

  told_behind : (act : Act) (r : PackedRecords S) (c : Option ℕ × PackedNode S)
      → told act (packed_joined q r) c ≡ ((told act r c).0, scene_behind q (told act r c).1)
  told_behind act r c =
      ap (λ all. (c.0, scene c.1 all)) (answering_behind (answer_at act (without_store app c.1)) r)

  calls_behind : (given : Given) (act : Act) (s : PackedScene S)
      → packed_calls app given act (scene_behind q s) ≡ ((packed_calls app given act s).0, scene_behind q (packed_calls app given act s).1)
  calls_behind given act s = told_behind act s.records (packed_calls_at app given act s.node)

  -- an event that is skipped, or what comes of its calls
  module _ (t : Turn) (brought : Packed S) (stop : Option ℕ) (n : PackedNode S) (c d : Option ℕ × PackedScene S)
      (same : c ≡ (d.0, scene_behind q d.1)) where
    event_behind : (o : Option SkipReason) (r : PackedRecords S)
        → (elim o as (λ _. Outcome × PackedScene S) [
          | Some reason ↦ (Skipped reason, scene n (packed_joined q r))
          | None ↦ packed_finish app t brought stop c.0 c.1
        ])
        ≡ outcome_behind q (elim o as (λ _. Outcome × PackedScene S) [
          | Some reason ↦ (Skipped reason, scene n r)
          | None ↦ packed_finish app t brought stop d.0 d.1
        ])
    event_behind (Some reason) r = refl
    event_behind None r =
        ap (λ (x : Option ℕ × PackedScene S). packed_finish app t brought stop x.0 x.1) same ∙ finish_behind t brought stop d.0 d.1

    abbrev commands_of : PackedScene S → List WorldCommand
    commands_of s = packed_executed app t brought (weight_at s.node.engine) (packed_work_of app stop s)

    commands_of_behind : (o : Option SkipReason)
        → (elim o as (λ _. List WorldCommand) [ Some reason ↦ [] | None ↦ commands_of c.1 ])
        ≡ (elim o as (λ _. List WorldCommand) [ Some reason ↦ [] | None ↦ commands_of d.1 ])
    commands_of_behind (Some reason) = refl
    commands_of_behind None =
        ap (λ (x : Option ℕ × PackedScene S). commands_of x.1) same
        ∙ executed_behind t brought (weight_at d.1.node.engine) (packed_work_of app stop d.1)

  module _ (given : Given) (act : Act) (brought : Packed S) (event : Event) (n : PackedNode S) where
    abbrev called : PackedRecords S → PackedScene S
    called r = packed_called_at app (moment_of event (without_store app n)) (scene n r)

    abbrev turn : Turn
    turn = turn_of act (without_store app (called q).node)

    played_behind : (r : PackedRecords S)
        → packed_played app given act brought event (scene n (packed_joined q r))
        ≡ outcome_behind q (packed_played app given act brought event (scene n r))
    unfolding packed_played
    played_behind r =
        event_behind turn brought event.stop n (packed_calls app given act (called (packed_joined q r))) (packed_calls app given act (called r))
        (calls_behind given act (called r)) (skip_reason act (without_store app n)) r

    commands_behind : (r : PackedRecords S)
        → packed_commands_at app given act brought event (scene n (packed_joined q r))
        ≡ packed_commands_at app given act brought event (scene n r)
    commands_behind r =
        commands_of_behind turn brought event.stop n (packed_calls app given act (called (packed_joined q r)))
        (packed_calls app given act (called r))
        (calls_behind given act (called r)) (skip_reason act (without_store app n))

  module _ (given : Given) (n : PackedNode S) (s : PackedStep S) where
    abbrev at : Event
    at = event_at (event.Read 0) s.at

    -- the same outcome comes of a step, and what it says stands behind what was said before
    pub same_played : packed_played app given s.act s.brought at (scene n q) ≡ outcome_behind q (packed_played_alone app given n s)
    same_played =
        ap (λ (r : PackedRecords S). packed_played app given s.act s.brought at (scene n r)) (sym (none_behind q))
        ∙ played_behind given s.act s.brought at n nothing_recorded

    -- the same commands are executed
    pub same_commands : packed_commands_at app given s.act s.brought at (scene n q) ≡ packed_step_commands app given n s
    same_commands =
        ap (λ (r : PackedRecords S). packed_commands_at app given s.act s.brought at (scene n r)) (sym (none_behind q))
        ∙ commands_behind given s.act s.brought at n nothing_recorded
