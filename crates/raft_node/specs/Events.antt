-- Events: their nodes, when they are skipped, the calls that they make, and their outcomes.
use Rattle.std.specs.Prelude.{ℕ, ◌-◌, ◌++◌, max, List, Option, Some, None, if◌then◌else◌, nat_eq, slice_get, slice_set, position, unwrap_or}
use Rattle.std.specs.Option.{option_map, option_to_list}
use Rattle.raft_store.specs.declared.entry.Entry.{Entry}
use Rattle.raft_store.specs.Types.{EngineView}
use Rattle.raft_node.specs.declared.act.Act.{Act}
use Rattle.raft_node.specs.declared.act.Act.TheVariants.{Initialize, Elect, Take, Propose, SendHeartbeat, Fail, TriggerSnapshot, FinishSnapshot, TriggerPurge, Restart, ChangeLearners, ChangeMembership, Read, StepDown, Stop}
use Rattle.raft_node.specs.declared.act.Aim.{Aim}
use Rattle.raft_node.specs.declared.given.Given.{Given}
use Rattle.raft_schedule.specs.declared.event.Event.{Event}
use Rattle.raft_schedule.specs.declared.event.EventKind.{EventKind}
use Rattle.raft_schedule.specs.declared.event.EventKind.TheVariants as event
use Rattle.raft_schedule.specs.declared.event.EventKind.TheVariants.{Init, Timeout, Stand, Deliver, Heartbeat, Snapshot, Built, Purge}
use Rattle.raft_schedule.specs.declared.event.Outcome.{Outcome}
use Rattle.raft_schedule.specs.declared.event.Outcome.TheVariants.{Done, Refused, Skipped, Stopped}
use Rattle.raft_schedule.specs.declared.event.SkipReason.{SkipReason}
use Rattle.raft_schedule.specs.declared.event.SkipReason.TheVariants.{NoMessage, NotRunning}
use Rattle.raft_calls.specs.declared.elections.Candidates.TheVariants.{AllMembers, Voters}
use Rattle.raft_calls.specs.declared.message.Message.{Message}
use Rattle.raft_node.specs.declared.node.Turn.{Turn}
use Rattle.raft_calls.specs.declared.lead.Answer.{Answer}
use Rattle.raft_calls.specs.Deliveries.{deliver, skip_delivery}
use Rattle.raft_calls.specs.LeaderCalls.{failed, heartbeats_sent, proposed, read_answer, read_asked, skip_fail, skip_propose, skip_step_down, stepped_down}
use Rattle.raft_calls.specs.Memberships.{learners_changed, membership_changed, skip_change, skip_learners}
use Rattle.raft_node.specs.Net.{NodeView, Records, Net, stopped_node}
use Rattle.raft_node.specs.Snapshots.{finish_snapshot, skip_finish}
use Rattle.raft_calls.specs.Snapshots.{purge_triggered, snapshot_triggered}
use Rattle.raft_node.specs.Starts.{restart}
use Rattle.raft_calls.specs.Elections.{elected, skip_initialize, skip_elect, initialized}
use Rattle.raft_node.specs.Work.{Work, work, worked, stop_after}

-- why the act is skipped at a node with this running engine; the first reason that applies
abbrev pub skip_running : Act → NodeView → EngineView → Option SkipReason
skip_running Initialize n e = skip_initialize e
skip_running (Elect candidates) n e = skip_elect candidates e
skip_running (Take m) n e = skip_delivery m.body e
skip_running (Propose values) n e = skip_propose e
skip_running SendHeartbeat n e = None
skip_running (Fail target) n e = skip_fail target e
skip_running TriggerSnapshot n e = None
skip_running FinishSnapshot n e = skip_finish n
skip_running (TriggerPurge i) n e = None
skip_running (Restart start) n e = None
skip_running (ChangeLearners learners) n e = skip_learners learners e
skip_running (ChangeMembership groups learners) n e = skip_change groups learners e
skip_running Read n e = None
skip_running StepDown n e = skip_step_down e
skip_running Stop n e = None

-- every act but a restart is skipped at a stopped node
abbrev pub skip_stopped : Act → Option SkipReason
skip_stopped (Restart start) = None
skip_stopped _ = Some NotRunning

-- why the act is skipped at a node
abbrev pub skip_reason : Act → NodeView → Option SkipReason
skip_reason act n = elim n.engine [ None ↦ skip_stopped act | Some e ↦ skip_running act n e ]

-- calls of a node's engine; a stopped node has none
abbrev pub on_engine : (EngineView → Option ℕ × EngineView) → NodeView → Option ℕ × NodeView
on_engine f n = elim n.engine [ None ↦ (None, n) | Some e ↦ (let r = f e in (r.0, record n { engine = Some r.1 })) ]

-- the act's calls, at the node's moment: the number of the refusal, if any, and the node after them
abbrev pub calls_at : Given → Act → NodeView → Option ℕ × NodeView
calls_at given Initialize n = on_engine (initialized given.membership n.moment) n
calls_at given (Elect candidates) n = on_engine (elected n.moment) n
calls_at given (Take m) n = on_engine (deliver m.from m.body n.moment) n
calls_at given (Propose values) n = on_engine (proposed values) n
calls_at given SendHeartbeat n = on_engine heartbeats_sent n
calls_at given (Fail target) n = on_engine (failed target) n
calls_at given TriggerSnapshot n = on_engine snapshot_triggered n
calls_at given FinishSnapshot n = finish_snapshot n
calls_at given (TriggerPurge i) n = on_engine (purge_triggered i) n
calls_at given (Restart start) n = restart given.settings start n
calls_at given (ChangeLearners learners) n = on_engine (learners_changed learners) n
calls_at given (ChangeMembership groups learners) n = on_engine (membership_changed groups learners) n
calls_at given Read n = on_engine read_asked n
calls_at given StepDown n = on_engine stepped_down n
calls_at given Stop n = (None, stopped_node n)

-- a leader's answer to a read
abbrev pub answer_at : Act → NodeView → Option Answer
answer_at Read n = elim n.engine [ None ↦ None | Some e ↦ read_answer n.id e ]
answer_at _ n = None

-- the delivered message: its sender gets the reply
abbrev pub requested : Act → Option Message
requested (Take m) = Some m
requested _ = None

-- a node, and the messages with the records
pub record Scene (L : Type 0) : Type 0 where
  pub node : NodeView
  pub records : Records L

-- the moment of an event: the greater of its own and the node's last
abbrev pub moment_of : Event → NodeView → ℕ
moment_of event n = max (unwrap_or event.at 0) n.moment

-- the outcome of an event, by its refusal and by whether the node still runs
abbrev pub outcome_of : Option ℕ → Option EngineView → Outcome
outcome_of (Some r) _ = Refused r
outcome_of None (Some _) = Done
outcome_of None None = Stopped

module _ {L : Type 0} where
  abbrev pub scene : NodeView → Records L → Scene L
  scene node records = record { node = node; records = records }

  -- a node at work
  abbrev pub work_of : Option ℕ → Scene L → Work L
  work_of stop s = work s.node.engine s.node.store s.node.streams s.node.noted s.records (stop_after stop)

  -- the node after it
  abbrev pub scene_of : NodeView → Work L → Scene L
  scene_of n w = record {
    node = record n { store = w.effects.store; engine = w.engine; streams = w.effects.streams; noted = w.effects.noted };
    records = w.effects.records;
  }

  -- a node at this moment
  abbrev pub called_at : ℕ → Scene L → Scene L
  called_at moment s = record s { node = record s.node { moment = moment } }

  -- an answer to a read, if there is one, is recorded
  abbrev pub with_answer : Option Answer → Records L → Records L
  with_answer answer w = record w { answers = w.answers ++ option_to_list answer }

  -- the act's calls, and what is recorded of their answers
  abbrev pub calls : Given → Act → Scene L → Option ℕ × Scene L
  calls given act s = let r = calls_at given act s.node in (r.0, scene r.1 (with_answer (answer_at act r.1) s.records))

-- the circumstances of an act at a node
abbrev pub turn_of : Act → NodeView → Turn
turn_of act n = record { id = n.id; moment = n.moment; request = requested act }

module _ {L : Type 0} (keep : List Entry → L) (fuel : Work L → ℕ) where
  -- after the event's calls the queue is executed
  unfoldable pub finish : Turn → Option ℕ → Option ℕ → Scene L → Outcome × Scene L
  finish t stop refusal s =
      let w = work_of stop s in
      let done = worked keep (fuel w) t w in
      (outcome_of refusal done.engine, scene_of s.node done)

  -- an event at a node: it is skipped, or its calls are made and its commands executed
  unfoldable pub played : Given → Act → Event → Scene L → Outcome × Scene L
  played given act event s =
      let now = called_at (moment_of event s.node) s in
      let r = calls given act now in
      elim (skip_reason act s.node) [ Some reason ↦ (Skipped reason, s) | None ↦ finish (turn_of act now.node) event.stop r.0 r.1 ]

-- the message with a number: they are counted from 1, in the order of sending
abbrev pub message_at : List Message → ℕ → Option Message
message_at bag k = if nat_eq k 0 then None else slice_get bag (k - 1)

-- an event's node, and what it does there; none if it delivers a message that was never sent
abbrev pub aim_of : List Message → EventKind → Option Aim
aim_of bag (Init n) = Some (record { id = n; act = Initialize })
aim_of bag (Timeout n) = Some (record { id = n; act = Elect Voters })
aim_of bag (Stand n) = Some (record { id = n; act = Elect AllMembers })
aim_of bag (Deliver k) = option_map (λ m. record { id = m.to; act = Take m }) (message_at bag k)
aim_of bag (event.Propose n values) = Some (record { id = n; act = Propose values })
aim_of bag (Heartbeat n) = Some (record { id = n; act = SendHeartbeat })
aim_of bag (event.Fail n target) = Some (record { id = n; act = Fail target })
aim_of bag (Snapshot n) = Some (record { id = n; act = TriggerSnapshot })
aim_of bag (Built n) = Some (record { id = n; act = FinishSnapshot })
aim_of bag (Purge n i) = Some (record { id = n; act = TriggerPurge i })
aim_of bag (event.Restart n start) = Some (record { id = n; act = Restart start })
aim_of bag (event.Member n learners) = Some (record { id = n; act = ChangeLearners learners })
aim_of bag (event.Change n groups learners) = Some (record { id = n; act = ChangeMembership groups learners })
aim_of bag (event.Read n) = Some (record { id = n; act = Read })
aim_of bag (event.Down n) = Some (record { id = n; act = StepDown })
aim_of bag (event.Stop n) = Some (record { id = n; act = Stop })

-- the place of the node with an id
unfoldable pub place_of : List NodeView → ℕ → Option ℕ
place_of nodes id = position (λ n. nat_eq n.id id) nodes

module _ {L : Type 0} where
  -- one node's part of the world
  abbrev pub at_place : Net L → ℕ → (Scene L → Outcome × Scene L) → Outcome × Net L
  at_place net i f =
      elim (slice_get net.nodes i) [
        | None ↦ (Skipped NotRunning, net)
        | Some n ↦ (let r = f (record { node = n; records = net.records }) in (r.0, record { nodes = slice_set net.nodes i r.1.node; records = r.1.records }))
      ]

  abbrev pub at_node : Net L → ℕ → (Scene L → Outcome × Scene L) → Outcome × Net L
  at_node net id f = elim (place_of net.nodes id) [ None ↦ (Skipped NotRunning, net) | Some i ↦ at_place net i f ]

-- an event: its outcome, and the world after it
unfoldable pub happens : {L : Type 0} → (List Entry → L) → (Work L → ℕ) → Given → Event → Net L → Outcome × Net L
happens keep fuel given event net =
    elim (aim_of net.records.bag event.kind) [
      | None ↦ (Skipped NoMessage, net)
      | Some aim ↦ at_node net aim.id (played keep fuel given aim.act event)
    ]
