-- An exchange: a leader's request is delivered to a node, and the node's answer to the leader (Raft paper, section 5.3).
use Rattle.std.specs.Prelude.{ℕ, ◌+◌, ◌-◌, ◌≡◌, ◌≢◌, ◌<◌, ◌≤◌, ◌⊎◌, ◌++◌, false, true, List, [], ◌∷◌, Option, None, Some, Ok, Err}
use Rattle.std.specs.List.{AllByRecursion}
use Rattle.std.specs.Ordering.{is_le, nat_cmp}
use Rattle.proof_deeds.specs.raft_state.declared.ids.LogId.{LogId}
use Rattle.proof_deeds.specs.raft_state.declared.ids.Vote.{Vote}
use Rattle.proof_deeds.specs.raft_state.Log.{last}
use Rattle.proof_deeds.specs.raft_state.Order.{last_id_cmp, next}
use Rattle.proof_deeds.specs.raft_state.State.{accepted}
use Rattle.proof_deeds.specs.raft_progress_entry.declared.entry.Inflight.{Inflight}
use Rattle.proof_deeds.specs.raft_progress_entry.declared.entry.Inflight.TheVariants as inflight
use Rattle.proof_deeds.specs.raft_progress_entry.declared.entry.ProgressEntry.{ProgressEntry}
use Rattle.proof_deeds.specs.raft_progress_entry.Entry.{next_send, sent}
use Rattle.proof_deeds.specs.raft_progress.Table.{get}
use Rattle.proof_deeds.specs.raft_command.declared.replication.ReplicationSessionId.{ReplicationSessionId}
use Rattle.proof_deeds.specs.raft_command.declared.replication.RequestId.TheVariants as request
use Rattle.proof_deeds.specs.raft_steps.Parts.{led_of}
use Rattle.proof_deeds.specs.raft_proposer.Joint.{u64_max}
use Rattle.proof_deeds.specs.raft_steps.Refusals.{rows_in}
use Rattle.proof_deeds.specs.raft_steps.VoteHandler.{rejects_vote}
use Rattle.proof_deeds.specs.raft_store.declared.entry.Entry.{Entry}
use Rattle.proof_deeds.specs.raft_store.Types.{EngineView, WorldLeader, WorldMachine, WorldStore}
use Rattle.proof_deeds.specs.raft_schedule.declared.event.Event.{Event}
use Rattle.proof_deeds.specs.raft_node.declared.given.Given.{Given}
use Rattle.proof_deeds.specs.raft_calls.declared.message.Body.{Body}
use Rattle.proof_deeds.specs.raft_calls.declared.message.Body.TheVariants as body
use Rattle.proof_deeds.specs.raft_calls.declared.message.Message.{Message}
use Rattle.proof_deeds.specs.raft_calls.declared.message.Origin.{Origin}
use Rattle.proof_deeds.specs.raft_node.Events.{message_at}
use Rattle.proof_deeds.specs.raft_calls.Feeds.{last_sent, WorldLed}
use Rattle.proof_deeds.specs.raft_calls.Deliveries.{session_of}
use Rattle.proof_deeds.specs.raft_node.Net.{Net, NodeView}
use Rattle.proof_deeds.specs.raft_node.Runs.{world_after}
use Rattle.proof_deeds.specs.raft_node.WellFormed.{IsWellFormed}
use Rattle.proof_progress.specs.Continuations.{At, fail}
use Rattle.proof_progress.specs.Elections.{Listed}
use Rattle.proof_progress.specs.Plans.{exchange}
use Rattle.proof_progress.specs.Proposals.{Fails}
use Rattle.proof_progress.specs.Replication.{Handles, IsAsked}

-- a request without entries of a leader, which tells a node what is committed, is on its way
pub record IsTold (net : Net (List Entry)) (v : Vote ℕ) (n t : ℕ) (x : Option (LogId ℕ)) : Type 0 where
  pub number : ℕ
  pub o : Origin
  pub own : o.session_id.vote ≡ v
  pub there : message_at net.records.bag number ≡ Some (record { from = n; to = t; body = body.AppendRequest o None [] x })

-- a request of a session that carries what is in flight: the entries of a range, or the snapshot up to its last id
abbrev pub Carries : ReplicationSessionId ℕ → Inflight ℕ → Body → Type 0
Carries s (inflight.Logs number range) (body.AppendRequest o prev es told) =
    (o.session_id ≡ s) × (o.request_id ≡ request.AppendEntries number) × (prev ≡ range.prev) × (last_sent prev es ≡ range.last)
Carries s (inflight.Snapshot number end) (body.SnapshotRequest o snapshot) = (o.session_id ≡ s) × (o.request_id ≡ request.Snapshot number) × (snapshot.meta.last_log_id ≡ end)
Carries s _ _ = ⊥

-- so many numbers are left, for commands and for requests to each node
abbrev pub HasNumbers : ℕ → WorldMachine → Type 0
HasNumbers k m = (m.core.output.seq + k ≤ u64_max - 8) × AllByRecursion (λ row. row.1.last_inflight_id + k ≤ u64_max - 8) (rows_in m)

module _ (net : Net (List Entry)) (now : ℕ) where
  -- a node leads, its queue was never out of memory, and its streams are those of its session
  pub record LeadsAt (n : ℕ) : Type 0 where
    pub node : NodeView
    pub at : At net.nodes n node
    pub moment : node.moment ≤ now
    pub engine : EngineView
    pub runs : node.engine ≡ Some engine
    pub leader : WorldLeader
    pub leads : engine.machine.leader ≡ Some leader
    pub session : ReplicationSessionId ℕ
    pub in_session : session_of engine ≡ Some session
    pub streams : node.streams.session_id ≡ Some session
    pub unspent : engine.machine.core.output.spent ≡ false

  -- a node whose vote isn't above a leader's, with so many numbers left
  pub record MayTake (v : Vote ℕ) (k t : ℕ) : Type 0 where
    pub node : NodeView
    pub at : At net.nodes t node
    pub moment : node.moment ≤ now
    pub engine : EngineView
    pub runs : node.engine ≡ Some engine
    pub unspent : engine.machine.core.output.spent ≡ false
    pub numbers : HasNumbers k engine.machine
    pub low : rejects_vote nat_cmp engine.machine.core.state v ≡ false

  -- a node follows a leader, with so many numbers left
  pub record FollowsAt (v : Vote ℕ) (k t : ℕ) : Type 0 where
    pub node : NodeView
    pub at : At net.nodes t node
    pub moment : node.moment ≤ now
    pub engine : EngineView
    pub runs : node.engine ≡ Some engine
    pub unspent : engine.machine.core.output.spent ≡ false
    pub numbers : HasNumbers k engine.machine
    pub vote : engine.machine.core.state.vote ≡ v

-- its leader and its state
abbrev pub led : {net : Net (List Entry)} {now n : ℕ} → LeadsAt net now n → WorldLed
led l = led_of l.leader l.engine.machine.core.state l.engine.machine.core.output

-- a log has an entry at its index
abbrev pub HasEntry : List (ℕ × Entry) → ℕ × Entry → Type 0
HasEntry [] p = ⊥
HasEntry (q ∷ log) p = (q ≡ p) ⊎ HasEntry log p

-- what is left of a store: its snapshot, and of its log at most what it had
pub record IsLeft (old new : WorldStore) : Type 0 where
  pub snap : new.snap ≡ old.snap
  pub log : (p : ℕ × Entry) → HasEntry new.log p → HasEntry old.log p

-- a leader goes on: its streams stay, what is on its way stays so, and what it comes to know as committed is told to its streams'
-- targets
pub record LeadsOn {net net1 : Net (List Entry)} {now n : ℕ} (l : LeadsAt net now n) (l1 : LeadsAt net1 now n) : Type 0 where
  pub streams : l1.node.streams ≡ l.node.streams
  pub bag : (k : ℕ) (m : Message) → message_at net.records.bag k ≡ Some m → message_at net1.records.bag k ≡ Some m
  pub tells : (l1.engine.machine.core.state.committed ≡ l.engine.machine.core.state.committed)
      ⊎ ((t : ℕ) → Listed l.node.streams.targets t → IsTold net1 l.leader.vote n t l1.engine.machine.core.state.committed)

-- what is in flight to a node was sent from the leader's log as it is, and its request is on its way
pub record IsOnItsWay {net : Net (List Entry)} {now n : ℕ} (l : LeadsAt net now n) (t : ℕ) : Type 0 where
  pub was : ProgressEntry ℕ
  pub free : was.inflight ≡ inflight.None
  pub has : get nat_cmp l.leader.progress t ≡ Some (sent was (next_send l.engine.machine.core.state l.engine.config.max_payload_entries was))
  pub number : ℕ
  pub body : Body
  pub there : message_at net.records.bag number ≡ Some (record { from = n; to = t; body = body })
  pub carries : Carries l.session (sent was (next_send l.engine.machine.core.state l.engine.config.max_payload_entries was)).inflight body

-- nothing is in flight to a node
pub record IsFree {net : Net (List Entry)} {now n : ℕ} (l : LeadsAt net now n) (t : ℕ) : Type 0 where
  pub entry : ProgressEntry ℕ
  pub has : get nat_cmp l.leader.progress t ≡ Some entry
  pub free : entry.inflight ≡ inflight.None

-- what is in flight are entries, not a snapshot
abbrev pub AreEntries : Inflight ℕ → Type 0
AreEntries inflight.None = ⊥
AreEntries (inflight.Logs number range) = Unit {0}
AreEntries (inflight.Snapshot number end) = ⊥

-- after an exchange, of the request with this number, the leader has handled an answer, and what it sends next, if anything, is on its
-- way; the node follows it; it has accepted what matches then, or a conflict is past what it has committed; all others are as they were
pub record Exchanged (given : Given) (past : List Event) (now n t k : ℕ) (l : LeadsAt (world_after given past) now n) (f : EngineView)
    (number : ℕ) : Type 0 where
  pub leads : LeadsAt (world_after given (past ++ exchange given now number (world_after given past))) now n
  pub config : leads.engine.config ≡ l.engine.config
  pub numbers : HasNumbers k leads.engine.machine
  pub on : LeadsOn l leads
  pub left : IsLeft l.node.store leads.node.store
  pub handled : Handles nat_cmp l.engine.config t (led l) (led leads)
  pub follows : FollowsAt (world_after given (past ++ exchange given now number (world_after given past))) now l.leader.vote k t
  pub accepts : (x : Option (LogId ℕ)) → handled.result ≡ Ok x → is_le (last_id_cmp nat_cmp x (accepted nat_cmp follows.engine.machine.core.state)) ≡ true
  pub conflicts : (x : LogId ℕ) → handled.result ≡ Err x → (next f.machine.core.state.committed ≤ x.index) × (follows.engine.machine.core.state.committed ≡ f.machine.core.state.committed)
  pub others : (i : ℕ) (I : NodeView) → i ≢ n → i ≢ t → At (world_after given past).nodes i I
      → At (world_after given (past ++ exchange given now number (world_after given past))).nodes i I
  pub next : IsFree leads t ⊎ IsOnItsWay leads t

-- From each reached world in which a node leads, not all of whose log is to be purged, and entries are on their way to another
-- node whose vote isn't above the leader's, the deliveries of the request and of the last message by then are an exchange: so the answers of
-- `AnswersEnd` are events
abbrev pub WorldsExchange : Type 0
WorldsExchange =
    (given : Given) → IsWellFormed given → (past : List Event) (now n t k : ℕ) (l : LeadsAt (world_after given past) now n) → n ≢ t → 1 ≤ l.engine.config.max_payload_entries
    → next l.engine.machine.core.state.purge_to < next (last l.engine.machine.core.state.ids) → HasNumbers (k + 2) l.engine.machine
    → (a : IsOnItsWay l t) → AreEntries (sent a.was (next_send l.engine.machine.core.state l.engine.config.max_payload_entries a.was)).inflight
    → (f : MayTake (world_after given past) now l.leader.vote (k + 2) t) → Exchanged given past now n t k l f.engine a.number

-- after a failure of what was in flight to a node, what the leader sends instead, if anything, is on its way; all others are
-- as they were
pub record SentAgain (given : Given) (past : List Event) (now n t k : ℕ) (l : LeadsAt (world_after given past) now n) : Type 0 where
  pub leads : LeadsAt (world_after given (past ++ fail n t now ∷ [])) now n
  pub config : leads.engine.config ≡ l.engine.config
  pub numbers : HasNumbers k leads.engine.machine
  pub on : LeadsOn l leads
  pub left : IsLeft l.node.store leads.node.store
  pub failed : Fails nat_cmp l.engine.config t (led l) (led leads)
  pub next : IsFree leads t ⊎ IsOnItsWay leads t
  pub others : (i : ℕ) (I : NodeView) → i ≢ n → At (world_after given past).nodes i I → At (world_after given (past ++ fail n t now ∷ [])).nodes i I

-- from each reached world in which a node leads, not all of whose log is to be purged, and something is in flight to another
-- node, wherever it is, a failure of it sends a request anew
abbrev pub WorldsSendAgain : Type 0
WorldsSendAgain =
    (given : Given) → IsWellFormed given → (past : List Event) (now n t k : ℕ) (l : LeadsAt (world_after given past) now n) → n ≢ t → 1 ≤ l.engine.config.max_payload_entries
    → next l.engine.machine.core.state.purge_to < next (last l.engine.machine.core.state.ids) → HasNumbers (k + 2) l.engine.machine → IsAsked nat_cmp t (led l) → SentAgain given past now n t k l
