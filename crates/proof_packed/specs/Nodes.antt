-- Nodes whose snapshots are states. Their engines are given snapshots without data, and what a message brings is kept beside it
-- until the event ends. Each definition is that of `raft_node` which its name says after `packed_`; `node_exec` is its `exec`.
use Rattle.std.specs.Prelude.{ℕ, Bool, false, true, List, [], ◌∷◌, ◌++◌, Option, None, Some, map, if◌then◌else◌}
use Rattle.std.specs.Option.{option_map, option_to_list}
use Rattle.std.specs.Ordering.{nat_cmp}
use Rattle.raft_node.specs.raft_state.declared.ids.LogId.{LogId}
use Rattle.raft_node.specs.raft_state.Order.{next}
use Rattle.raft_node.specs.raft_progress_entry.declared.entry.Inflight.{Inflight}
use Rattle.raft_node.specs.raft_progress_entry.declared.entry.Inflight.TheVariants as inflight
use Rattle.raft_node.specs.raft_command.declared.command.Command.TheVariants as command
use Rattle.raft_node.specs.raft_command.declared.config.EngineConfig.{EngineConfig}
use Rattle.raft_node.specs.raft_command.declared.replication.ReplicationSessionId.{ReplicationSessionId}
use Rattle.raft_node.specs.raft_command.declared.replication.RequestId.TheVariants as request
use Rattle.raft_node.specs.raft_command.declared.sm.CommandPayload.TheVariants as payload
use Rattle.raft_node.specs.raft_command.Queue.{Queue, popped}
use Rattle.raft_node.specs.raft_steps.Parts.{idle}
use Rattle.raft_node.specs.raft_steps.Refusals.{refusals_of_spent}
use Rattle.raft_node.specs.raft_steps.SnapshotCalls.{finish_building_snapshot}
use Rattle.raft_node.specs.raft_store.Store.{between, no_store}
use Rattle.raft_node.specs.raft_store.Types.{WorldCommand, WorldPayload, EngineView}
use Rattle.raft_node.specs.raft_schedule.declared.event.Event.{Event}
use Rattle.raft_node.specs.raft_schedule.declared.event.Outcome.{Outcome}
use Rattle.raft_node.specs.raft_schedule.declared.event.Outcome.TheVariants.{Skipped}
use Rattle.raft_node.specs.declared.act.Act.{Act}
use Rattle.raft_node.specs.declared.act.Act.TheVariants.{FinishSnapshot, Restart, Stop, Take}
use Rattle.raft_node.specs.raft_schedule.declared.event.Start.{Start}
use Rattle.raft_node.specs.raft_schedule.declared.event.Start.TheVariants.{Plain, Saved, Bare}
use Rattle.raft_node.specs.declared.given.Given.{Given}
use Rattle.raft_node.specs.raft_calls.declared.message.Body.{Body}
use Rattle.raft_node.specs.raft_calls.declared.message.Body.TheVariants as body
use Rattle.raft_node.specs.raft_calls.declared.message.Message.{Message}
use Rattle.raft_node.specs.declared.node.Streams.{Streams}
use Rattle.raft_node.specs.declared.node.Turn.{Turn}
use Rattle.raft_node.specs.raft_calls.declared.lead.Answer.{Answer}
use Rattle.raft_node.specs.declared.record.Decided.{Decided}
use Rattle.raft_node.specs.declared.record.Established.{Established}
use Rattle.raft_node.specs.declared.record.Executed.{Executed}
use Rattle.raft_node.specs.raft_calls.Deliveries.{answered, with_machine, session_of}
use Rattle.raft_node.specs.Events.{Scene, answer_at, calls_at, moment_of, outcome_of, skip_reason, turn_of}
use Rattle.raft_node.specs.Execute.{Effects, heartbeat, origin, others, replies}
use Rattle.raft_node.specs.raft_calls.Feeds.{feed}
use Rattle.raft_node.specs.Net.{NodeView, Records, no_streams}
use Rattle.raft_node.specs.raft_calls.Starts.{begun_anew, new_engine, resumed}
use Rattle.raft_node.specs.Until.{until}
use Rattle.raft_node.specs.Work.{Work, is_idle, one_less, stop_after, stops}
use Rattle.raft_node.specs.raft_calls.Weights.{weight_at}
use Rattle.raft_node.specs.raft_calls.Engines.{with_queue}
use Rattle.proof_packed.specs.Data.{command_with, machine_with, queue_with}
use Rattle.proof_packed_stores.specs.Stores.{Application, Packed, PackedStore, packed_keep_snapshot, packed, packed_due, packed_exec, packed_meta, packed_restarted, packed_started, packed_store}

-- without a snapshot's data: a command, a queue, an engine, a message, an act
abbrev pub bare_command : WorldCommand → WorldCommand
bare_command c = command_with [] c

abbrev pub bare_queue : Queue WorldCommand → Queue WorldCommand
bare_queue q = queue_with [] q

abbrev pub bare_engine : EngineView → EngineView
bare_engine e = record e { machine = machine_with [] e.machine }

abbrev pub bare_body : Body → Body
bare_body (body.SnapshotRequest o s) = body.SnapshotRequest o (record s { snapshot = [] })
bare_body b = b

abbrev pub bare_message : Message → Message
bare_message m = record m { body = bare_body m.body }

abbrev pub bare_turn : Turn → Turn
bare_turn t = record t { request = option_map bare_message t.request }

abbrev pub bare_act : Act → Act
bare_act (Take m) = Take (bare_message m)
bare_act act = act

-- a message, and the snapshot that it brings; that of no entries, if it brings none
pub record PackedMessage (S : Type 0) : Type 0 where
  pub message : Message
  pub brought : Packed S

-- a snapshot that was installed at a node
pub record PackedInstalled (S : Type 0) : Type 0 where
  pub node : ℕ
  pub snapshot : Packed S

-- records without leaders' whole logs: those are for theorems
abbrev pub decided_without_log : {L : Type 0} → Decided L → Decided (Unit {0})
decided_without_log d = record { leader_id = d.leader_id; log_id = d.log_id; log = tt }

abbrev pub established_without_log : {L : Type 0} → Established L → Established (Unit {0})
established_without_log d = record { leader_id = d.leader_id; log = tt }

pub record PackedRecords (S : Type 0) : Type 0 where
  pub bag : List (PackedMessage S)
  pub executed : List Executed
  pub installed : List (PackedInstalled S)
  pub decided : List (Decided (Unit {0}))
  pub established : List (Established (Unit {0}))
  pub answers : List Answer

-- what commands change; a node at work; a node; and a node with the messages and records
pub record PackedEffects (S : Type 0) : Type 0 where
  pub store : PackedStore S
  pub streams : Streams
  pub noted : Option (Packed S)
  pub records : PackedRecords S

pub record PackedWork (S : Type 0) : Type 0 where
  pub engine : Option EngineView
  pub effects : PackedEffects S
  pub left : Option ℕ

pub record PackedNode (S : Type 0) : Type 0 where
  pub id : ℕ
  pub store : PackedStore S
  pub engine : Option EngineView
  pub streams : Streams
  pub noted : Option (Packed S)
  pub moment : ℕ

pub record PackedScene (S : Type 0) : Type 0 where
  pub node : PackedNode S
  pub records : PackedRecords S

module _ {S : Type 0} (app : Application S) where
  -- a node that starts empty
  abbrev pub packed_new_node : EngineConfig ℕ → ℕ → PackedNode S
  packed_new_node settings id = record { id = id; store = packed_store app (no_store 0); engine = Some (new_engine settings id); streams = no_streams; noted = None; moment = 0 }

  -- what is kept of no entries
  abbrev pub of_no_entries : Packed S
  of_no_entries = packed app []

  -- what there is in a world, packed
  abbrev pub brought_by_body : Body → Packed S
  brought_by_body (body.SnapshotRequest o s) = packed app s.snapshot
  brought_by_body _ = of_no_entries

  abbrev pub packed_message : Message → PackedMessage S
  packed_message m = record { message = bare_message m; brought = brought_by_body m.body }

  module _ {L : Type 0} where
    abbrev pub packed_records : Records L → PackedRecords S
    packed_records r = record {
      bag = map packed_message r.bag;
      executed = r.executed;
      installed = map (λ x. record { node = x.node; snapshot = packed app x.entries }) r.installed;
      decided = map decided_without_log r.decided;
      established = map established_without_log r.established;
      answers = r.answers;
    }

    abbrev pub packed_effects : Effects L → PackedEffects S
    packed_effects w = record { store = packed_store app w.store; streams = w.streams; noted = option_map (packed app) w.noted; records = packed_records w.records }

    abbrev pub packed_work : Work L → PackedWork S
    packed_work w = record { engine = option_map bare_engine w.engine; effects = packed_effects w.effects; left = w.left }

  abbrev pub packed_node : NodeView → PackedNode S
  packed_node n = record { id = n.id; store = packed_store app n.store; engine = option_map bare_engine n.engine; streams = n.streams; noted = option_map (packed app) n.noted; moment = n.moment }

  abbrev pub packed_scene : {L : Type 0} → Scene L → PackedScene S
  packed_scene s = record { node = packed_node s.node; records = packed_records s.records }

  -- how each command changes the store, the streams, the note, the messages and the records
  abbrev pub plain_message : Message → PackedMessage S
  plain_message m = record { message = m; brought = of_no_entries }

  abbrev pub packed_sending : List (PackedMessage S) → PackedEffects S → PackedEffects S
  packed_sending ms w = record w { records = record w.records { bag = w.records.bag ++ ms } }

  abbrev pub packed_to_each : ℕ → List ℕ → Body × Packed S → List (PackedMessage S)
  packed_to_each id ids b = map (λ to. record { message = record { from = id; to = to; body = b.0 }; brought = b.1 }) ids

  abbrev pub packed_replication : Turn → ReplicationSessionId ℕ → PackedStore S → Inflight ℕ → Body × Packed S
  packed_replication t s w inflight.None = (heartbeat t s w.saved, of_no_entries)
  packed_replication t s w (inflight.Logs id range) =
      (body.AppendRequest (origin t s (request.AppendEntries id)) range.prev (between (next range.prev) (next range.last) w.log) w.saved, of_no_entries)
  packed_replication t s w (inflight.Snapshot id last) =
      (body.SnapshotRequest (origin t s (request.Snapshot id)) (record { meta = w.meta; snapshot = [] }), w.snap)

  abbrev pub packed_replicate_committed : Turn → Option (LogId ℕ) → ReplicationSessionId ℕ → PackedEffects S → PackedEffects S
  packed_replicate_committed t committed s w =
      let told = packed_sending (packed_to_each t.id w.streams.targets (heartbeat t s committed, of_no_entries)) w in
      record told { records = record told.records { decided = w.records.decided ++ map (λ x. record { leader_id = s.vote.leader_id; log_id = x; log = tt }) (option_to_list committed) } }

  module _ (t : Turn) (brought : Packed S) where
    abbrev pub packed_storing : WorldCommand → PackedEffects S → PackedEffects S
    packed_storing c w = record w { store = packed_exec app brought c w.store }

    abbrev pub node_exec_payload : WorldCommand → WorldPayload → PackedEffects S → PackedEffects S
    node_exec_payload c payload.BuildSnapshot w = record w { noted = Some w.store.applied }
    node_exec_payload c (payload.InstallFullSnapshot s) w =
        let stored = packed_storing c w in
        record stored { records = record w.records { installed = w.records.installed ++ record { node = t.id; snapshot = brought } ∷ [] } }
    node_exec_payload c _ w = w

    abbrev pub node_exec : EngineView → WorldCommand → PackedEffects S → PackedEffects S
    node_exec e (command.SaveVote v) w = packed_storing (command.SaveVote v) w
    node_exec e (command.AppendInputEntries v es) w = packed_storing (command.AppendInputEntries v es) w
    node_exec e (command.DeleteConflictLog since) w = packed_storing (command.DeleteConflictLog since) w
    node_exec e (command.PurgeLog upto) w = packed_storing (command.PurgeLog upto) w
    node_exec e (command.Commit seq already upto) w =
        let stored = packed_storing (command.Commit seq already upto) w in
        record stored { records = record w.records { executed = w.records.executed ++ map (λ x. record { node = t.id; entry = x }) (packed_due w.store upto) } }
    node_exec e (command.StateMachine c) w = node_exec_payload (command.StateMachine c) c.payload w
    node_exec e (command.SendVote req) w = packed_sending (packed_to_each t.id (others t.id e.machine.core.state.em.membership) (body.VoteRequest req, of_no_entries)) w
    node_exec e (command.RebuildReplicationStreams targets) w =
        record w { streams = record { targets = map (λ x. x.0) targets; session_id = session_of e } }
    node_exec e (command.Replicate target req) w =
        elim w.streams.session_id [ None ↦ w | Some s ↦ packed_sending (packed_to_each t.id (target ∷ []) (packed_replication t s w.store req)) w ]
    node_exec e (command.ReplicateCommitted committed) w = elim w.streams.session_id [ None ↦ w | Some s ↦ packed_replicate_committed t committed s w ]
    node_exec e (command.Respond when reply) w = packed_sending (map plain_message (replies t reply)) w
    node_exec e command.BecomeLeader w =
        record w { records = record w.records { established = w.records.established ++ record { leader_id = e.machine.core.state.vote.leader_id; log = tt } ∷ [] } }
    node_exec e command.QuitLeader w = record w { streams = no_streams }

    -- a command is executed, and fed back; a stop drops the engine, the streams and the note
    abbrev pub packed_stopped : PackedEffects S → PackedWork S
    packed_stopped w = record { engine = None; effects = record w { streams = no_streams; noted = None }; left = None }

    abbrev pub packed_done_of : PackedWork S → EngineView → WorldCommand → PackedWork S
    packed_done_of w e c =
        let after = node_exec e c w.effects in
        if stops w.left then packed_stopped after else record { engine = Some (feed t.moment c e); effects = after; left = one_less w.left }

    abbrev pub packed_step_of : PackedWork S → EngineView → Option WorldCommand × Queue WorldCommand → PackedWork S
    packed_step_of w e p = elim p.0 [ None ↦ w | Some c ↦ packed_done_of w (with_queue e p.1) c ]

    abbrev pub packed_work_step : PackedWork S → PackedWork S
    packed_work_step w = elim w.engine [ None ↦ w | Some e ↦ packed_step_of w e (popped e.machine.core.output) ]

    abbrev pub packed_idle : PackedWork S → Bool
    packed_idle w = is_idle w.engine

    unfoldable pub packed_worked : ℕ → PackedWork S → PackedWork S
    packed_worked fuel w = until packed_idle packed_work_step fuel w

  -- what an act brings: only a message brings anything
  abbrev pub brought_by_act : Act → Packed S
  brought_by_act (Take m) = brought_by_body m.body
  brought_by_act _ = of_no_entries

  -- a node without its store: all that an engine's calls see. (Of a note they see that there is one)
  abbrev pub without_store : PackedNode S → NodeView
  without_store n = record { id = n.id; store = no_store 0; engine = n.engine; streams = n.streams; noted = option_map (λ p. []) n.noted; moment = n.moment }

  abbrev pub packed_kept_built : Packed S → PackedNode S → Option ℕ × EngineView → Option ℕ × PackedNode S
  packed_kept_built p n (Some r, e) = (Some r, n)
  packed_kept_built p n (None, e) = (None, record n { store = packed_keep_snapshot p n.store; engine = Some e; noted = None })

  -- the build of a snapshot ends: the engine is told of it
  abbrev pub packed_told_built : Packed S → EngineView → Option ℕ × EngineView
  packed_told_built p e = answered (refusals_of_spent e.machine) e (with_machine e (finish_building_snapshot nat_cmp e.config (packed_meta p) e.machine))

  abbrev pub packed_finish_snapshot : PackedNode S → Option ℕ × PackedNode S
  packed_finish_snapshot n =
      elim n.engine [
        | None ↦ (None, n)
        | Some e ↦ elim n.noted [ None ↦ (None, n) | Some p ↦ packed_kept_built p n (packed_told_built p e) ]
      ]

  abbrev pub packed_engine_on : EngineConfig ℕ → Bool → PackedNode S → EngineView
  packed_engine_on settings saved n = record { config = record settings { id = n.id }; machine = idle (packed_started app saved n.store); seen_greater_log = false }

  abbrev pub packed_started_with : Bool → PackedNode S → Option ℕ × EngineView → Option ℕ × PackedNode S
  packed_started_with saved n r = (r.0, record n { store = packed_restarted app saved n.store; engine = Some r.1; streams = no_streams; noted = None })

  abbrev pub packed_resumed_on : EngineConfig ℕ → Bool → PackedNode S → Option ℕ × PackedNode S
  packed_resumed_on settings saved n = packed_started_with saved n (resumed (packed_engine_on settings saved n))

  abbrev pub packed_unsaved : PackedNode S → PackedNode S
  packed_unsaved n = record n { store = record n.store { saved = None } }

  abbrev pub packed_begun_on : EngineConfig ℕ → PackedNode S → Option ℕ × PackedNode S
  packed_begun_on settings n = packed_started_with false n (begun_anew n.moment (packed_engine_on settings false n))

  abbrev pub packed_restart : EngineConfig ℕ → Start → PackedNode S → Option ℕ × PackedNode S
  packed_restart settings Plain n = packed_resumed_on settings false n
  packed_restart settings Saved n = packed_resumed_on settings true n
  packed_restart settings Bare n = packed_begun_on settings (packed_unsaved n)

  -- the node after its engine's calls, which are those of a node without a store
  abbrev pub with_engine_of : PackedNode S → Option ℕ × NodeView → Option ℕ × PackedNode S
  with_engine_of n r = (r.0, record n { engine = r.1.engine })

  abbrev pub packed_calls_at : Given → Act → PackedNode S → Option ℕ × PackedNode S
  packed_calls_at given FinishSnapshot n = packed_finish_snapshot n
  packed_calls_at given (Restart start) n = packed_restart given.settings start n
  packed_calls_at given Stop n = (None, record n { engine = None; streams = no_streams; noted = None })
  packed_calls_at given act n = with_engine_of n (calls_at given act (without_store n))

  -- the records with an answer to a read, if there is one
  abbrev pub packed_with_answer : Option Answer → PackedRecords S → PackedRecords S
  packed_with_answer answer w = record w { answers = w.answers ++ option_to_list answer }

  -- the act's calls, and what is recorded of their answers
  abbrev pub packed_calls : Given → Act → PackedScene S → Option ℕ × PackedScene S
  packed_calls given act s =
      let r = packed_calls_at given act s.node in
      (r.0, record { node = r.1; records = packed_with_answer (answer_at act (without_store r.1)) s.records })

  -- a node at work
  abbrev pub packed_work_of : Option ℕ → PackedScene S → PackedWork S
  packed_work_of stop s = record { engine = s.node.engine; effects = record { store = s.node.store; streams = s.node.streams; noted = s.node.noted; records = s.records }; left = stop_after stop }

  abbrev pub packed_scene_of : PackedNode S → PackedWork S → PackedScene S
  packed_scene_of n w = record {
    node = record n { store = w.effects.store; engine = w.engine; streams = w.effects.streams; noted = w.effects.noted };
    records = w.effects.records;
  }

  abbrev pub packed_called_at : ℕ → PackedScene S → PackedScene S
  packed_called_at moment s = record s { node = record s.node { moment = moment } }

  -- after the event's calls the queue is executed
  unfoldable pub packed_finish : Turn → Packed S → Option ℕ → Option ℕ → PackedScene S → Outcome × PackedScene S
  packed_finish t brought stop refusal s =
      let w = packed_work_of stop s in
      let done = packed_worked t brought (weight_at w.engine) w in
      (outcome_of refusal done.engine, packed_scene_of s.node done)

  -- an event at a packed node, with an act whose message has no data, and with what it brought
  unfoldable pub packed_played : Given → Act → Packed S → Event → PackedScene S → Outcome × PackedScene S
  packed_played given act brought event s =
      let now = packed_called_at (moment_of event (without_store s.node)) s in
      let r = packed_calls given act now in
      elim (skip_reason act (without_store s.node)) [ Some reason ↦ (Skipped reason, s) | None ↦ packed_finish (turn_of act (without_store now.node)) brought event.stop r.0 r.1 ]
