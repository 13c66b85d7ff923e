-- How each command changes the store of its node, its streams and note, the messages and the records.
use Rattle.std.specs.Prelude.{ℕ, nat_eq, not, List, [], ◌∷◌, ◌++◌, Option, None, Some, map, filter}
use Rattle.std.specs.Ordering.{nat_cmp}
use Rattle.std.specs.Option.{option_to_list}
use Rattle.raft_state.specs.declared.ids.LogId.{LogId}
use Rattle.raft_state.specs.declared.membership.Members.{Members}
use Rattle.raft_state.specs.Members.{voter_ids, learner_ids}
use Rattle.raft_state.specs.Order.{next}
use Rattle.raft_progress_entry.specs.declared.entry.Inflight.{Inflight}
use Rattle.raft_progress_entry.specs.declared.entry.Inflight.TheVariants as inflight
use Rattle.raft_command.specs.declared.command.Command.TheVariants as command
use Rattle.raft_command.specs.declared.sm.CommandPayload.TheVariants as payload
use Rattle.raft_command.specs.declared.respond.Respond.TheVariants as respond
use Rattle.raft_command.specs.declared.replication.ReplicationSessionId.{ReplicationSessionId}
use Rattle.raft_command.specs.declared.replication.RequestId.TheVariants as request
use Rattle.raft_command.specs.declared.replication.RequestId.{RequestId}
use Rattle.raft_store.specs.declared.entry.Entry.{Entry}
use Rattle.raft_store.specs.Entries.{entry_meaning}
use Rattle.raft_store.specs.Store.{whole, whole_upto, between, due}
use Rattle.raft_store.specs.Store as store
use Rattle.raft_store.specs.Types.{WorldStore, WorldCommand, WorldPayload, EngineView}
use Rattle.raft_calls.specs.declared.message.Message.{Message}
use Rattle.raft_calls.specs.declared.message.Origin.{Origin}
use Rattle.raft_calls.specs.declared.message.Body.{Body}
use Rattle.raft_calls.specs.declared.message.Body.TheVariants as body
use Rattle.raft_node.specs.declared.node.Streams.{Streams}
use Rattle.raft_node.specs.declared.node.Turn.{Turn}
use Rattle.raft_node.specs.declared.record.Decided.{Decided}
use Rattle.raft_node.specs.Net.{Records, no_streams}
use Rattle.raft_calls.specs.Engines.{WorldRespond}
use Rattle.raft_calls.specs.Deliveries.{session_of}
use Rattle.raft_calls.specs.Feeds.{last_sent}

-- what commands change: the store, the streams and the note of their node, the messages and the records
pub record Effects (L : Type 0) : Type 0 where
  pub store : WorldStore
  pub streams : Streams
  pub noted : Option (List Entry)
  pub records : Records L

module _ {L : Type 0} where
  abbrev pub sending : List Message → Effects L → Effects L
  sending ms w = record w { records = record w.records { bag = w.records.bag ++ ms } }

  -- the store's part of a command
  abbrev pub storing : WorldCommand → Effects L → Effects L
  storing c w = record w { store = store.exec entry_meaning (λ es. es) c w.store }

-- the other nodes of a membership: its voters, then its learners, each ascending
abbrev pub others : ℕ → Members ℕ (Unit {0}) → List ℕ
others id m = filter (λ to. not (nat_eq to id)) (voter_ids nat_cmp m ++ learner_ids nat_cmp m)

-- one message to each of these
abbrev pub to_each : ℕ → List ℕ → Body → List Message
to_each id ids b = map (λ to. record { from = id; to = to; body = b }) ids

-- a request of a session, sent now
abbrev pub origin : Turn → ReplicationSessionId ℕ → RequestId → Origin
origin t s id = record { session_id = s; request_id = id; sent_at = t.moment }

-- a request without entries: it carries the leader's vote and a committed id
abbrev pub heartbeat : Turn → ReplicationSessionId ℕ → Option (LogId ℕ) → Body
heartbeat t s committed = body.AppendRequest (origin t s request.HeartBeat) None [] committed

-- what a target is sent: a range of entries, the snapshot, or a heartbeat (Raft paper, sections 5.3 and 7)
abbrev pub replication : Turn → ReplicationSessionId ℕ → WorldStore → Inflight ℕ → Body
replication t s w inflight.None = heartbeat t s w.saved
replication t s w (inflight.Logs id range) =
    body.AppendRequest (origin t s (request.AppendEntries id)) range.prev (between (next range.prev) (next range.last) w.log) w.saved
replication t s w (inflight.Snapshot id last) =
    body.SnapshotRequest (origin t s (request.Snapshot id)) (record { meta = w.meta; snapshot = w.snap })

-- the message for a reply to a request
abbrev pub reply_to : Body → WorldRespond → Option Body
reply_to (body.VoteRequest _) (respond.Vote r) = Some (body.VoteReply r.value)
reply_to (body.AppendRequest o prev es committed) (respond.AppendEntries r) = Some (body.AppendReply o r.value prev (last_sent prev es))
reply_to (body.SnapshotRequest o s) (respond.InstallFullSnapshot r) = Some (body.SnapshotReply o r.value s.meta.last_log_id)
reply_to _ _ = None

-- the reply to the sender of the delivered message
abbrev pub replies : Turn → WorldRespond → List Message
replies t r =
    elim t.request [
      | None ↦ []
      | Some m ↦ map (λ b. record { from = t.id; to = m.from; body = b }) (option_to_list (reply_to m.body r))
    ]

module _ {L : Type 0} (keep : List Entry → L) where
  -- a leader's commit: its leader id, the committed id, and its whole log up to it
  abbrev pub decided_by : ReplicationSessionId ℕ → WorldStore → LogId ℕ → Decided L
  decided_by s w x = record { leader_id = s.vote.leader_id; log_id = x; log = keep (whole_upto w x.index) }

  -- a leader sends its committed id to each target, which is recorded as decided
  abbrev pub replicate_committed : Turn → Option (LogId ℕ) → ReplicationSessionId ℕ → Effects L → Effects L
  replicate_committed t committed s w =
      let told = sending (to_each t.id w.streams.targets (heartbeat t s committed)) w in
      record told { records = record told.records { decided = w.records.decided ++ map (decided_by s w.store) (option_to_list committed) } }

  -- the same, if there is a session
  abbrev pub exec_committed : Turn → Option (LogId ℕ) → Effects L → Effects L
  exec_committed t committed w = elim w.streams.session_id [ None ↦ w | Some s ↦ replicate_committed t committed s w ]

  -- a leader is recorded under the engine's vote, with its whole log
  abbrev pub establish : EngineView → Effects L → Effects L
  establish e w = record w {
    records = record w.records {
      established = w.records.established ++ record { leader_id = e.machine.core.state.vote.leader_id; log = keep (whole w.store) } ∷ [];
    };
  }

  -- a command to the state machine
  abbrev pub exec_payload : Turn → WorldCommand → WorldPayload → Effects L → Effects L
  exec_payload t c payload.BuildSnapshot w = record w { noted = Some w.store.applied }
  exec_payload t c (payload.InstallFullSnapshot s) w =
      let stored = storing c w in
      record stored { records = record w.records { installed = w.records.installed ++ record { node = t.id; entries = s.snapshot } ∷ [] } }
  exec_payload t c _ w = w

  -- a command, executed at the node of this turn under its engine
  abbrev pub exec : Turn → EngineView → WorldCommand → Effects L → Effects L
  exec t e (command.SaveVote v) w = storing (command.SaveVote v) w
  exec t e (command.AppendInputEntries v es) w = storing (command.AppendInputEntries v es) w
  exec t e (command.DeleteConflictLog since) w = storing (command.DeleteConflictLog since) w
  exec t e (command.PurgeLog upto) w = storing (command.PurgeLog upto) w
  exec t e (command.Commit seq already upto) w =
      let stored = storing (command.Commit seq already upto) w in
      record stored { records = record w.records { executed = w.records.executed ++ map (λ x. record { node = t.id; entry = x }) (due w.store upto) } }
  exec t e (command.StateMachine c) w = exec_payload t (command.StateMachine c) c.payload w
  exec t e (command.SendVote req) w = sending (to_each t.id (others t.id e.machine.core.state.em.membership) (body.VoteRequest req)) w
  exec t e (command.RebuildReplicationStreams targets) w =
      record w { streams = record { targets = map (λ x. x.0) targets; session_id = session_of e } }
  exec t e (command.Replicate target req) w =
      elim w.streams.session_id [ None ↦ w | Some s ↦ sending (to_each t.id (target ∷ []) (replication t s w.store req)) w ]
  exec t e (command.ReplicateCommitted committed) w = exec_committed t committed w
  exec t e (command.Respond when reply) w = sending (replies t reply) w
  exec t e command.BecomeLeader w = establish e w
  exec t e command.QuitLeader w = record w { streams = no_streams }

-- the parts of a node and the records as one value
abbrev pub effects : {L : Type 0} → WorldStore → Streams → Option (List Entry) → Records L → Effects L
effects store streams noted records = record { store = store; streams = streams; noted = noted; records = records }
