-- Reads: what a leader must hear after a read came, so that its answer has all that was acknowledged before.
use Rattle.std.specs.Prelude.{ℕ, ◌<◌, ◌≤◌, ◌≡◌, ◌≢◌, ◌⊎◌, All, true, false, Contains, List, [], ◌∷◌, ◌++◌, length, slice_get, take, Some}
use Rattle.std.specs.List.{AllByRecursion}
use Rattle.std.specs.Ordering.{is_lt, nat_cmp}
use Rattle.std.specs.declared.cmp.Ordering.TheVariants.{Less}
use Rattle.proof_deeds.specs.raft_state.declared.ids.LeaderId.{LeaderId}
use Rattle.proof_deeds.specs.raft_state.Order.{leader_id_cmp, next, vote_cmp}
use Rattle.proof_deeds.specs.raft_command.declared.message.AppendEntriesResponse.{AppendEntriesResponse}
use Rattle.proof_deeds.specs.raft_command.declared.message.AppendEntriesResponse.TheVariants.{HigherVote}
use Rattle.proof_deeds.specs.raft_progress.Quorum.{is_quorum}
use Rattle.proof_deeds.specs.raft_steps.VoteHandler.{rejects_vote}
use Rattle.proof_deeds.specs.raft_store.declared.entry.Entry.{Entry}
use Rattle.proof_deeds.specs.raft_store.Store.{whole}
use Rattle.proof_deeds.specs.raft_store.Types.{EngineView}
use Rattle.proof_deeds.specs.raft_schedule.declared.event.Event.{Event}
use Rattle.proof_deeds.specs.raft_schedule.declared.event.EventKind.TheVariants as event
use Rattle.proof_deeds.specs.raft_schedule.declared.event.Start.TheVariants.{Bare}
use Rattle.proof_deeds.specs.raft_node.declared.given.Given.{Given}
use Rattle.proof_deeds.specs.raft_calls.declared.message.Body.{Body}
use Rattle.proof_deeds.specs.raft_calls.declared.message.Body.TheVariants.{AppendReply, AppendRequest, SnapshotReply, SnapshotRequest}
use Rattle.proof_deeds.specs.raft_calls.declared.message.Message.{Message}
use Rattle.proof_deeds.specs.raft_calls.declared.message.Origin.{Origin}
use Rattle.proof_deeds.specs.raft_calls.declared.lead.Answer.{Answer}
use Rattle.proof_deeds.specs.raft_node.Chosen.{effective_in}
use Rattle.proof_deeds.specs.raft_node.Events.{message_at}
use Rattle.proof_deeds.specs.raft_node.Net.{NodeView, node_at}
use Rattle.proof_deeds.specs.raft_node.Runs.{moment, world_after}
use Rattle.proof_deeds.specs.OwnReads.{Leaves}

-- after the first k events of a run, or later, node n stores no vote above d's
pub record StillUnder (given : Given) (es : List Event) (k n : ℕ) (d : LeaderId ℕ) : Type 0 where
  pub events : ℕ
  pub after : k ≤ events
  pub node : NodeView
  pub is : node_at (world_after given (take events es)).nodes n ≡ Some node
  pub vote : leader_id_cmp nat_cmp d node.store.vote.leader_id ≢ Less

-- a leader's request with this origin: entries, or a snapshot
abbrev pub IsRequestOf : Body → Origin → Type 0
IsRequestOf (AppendRequest o prev entries committed) p = o ≡ p
IsRequestOf (SnapshotRequest o snapshot) p = o ≡ p
IsRequestOf _ p = ⊥

-- After the first k events, a request of d is delivered to node n, whose engine doesn't reject its vote. A leader that hears so
-- in reply to a request that it sent after these events knows it.
pub record Takes (given : Given) (es : List Event) (k n : ℕ) (d : LeaderId ℕ) : Type 0 where
  pub events : ℕ
  pub after : k ≤ events
  pub delivery : Event
  pub next : slice_get es events ≡ Some delivery
  pub number : ℕ
  pub delivers : delivery.kind ≡ event.Deliver number
  pub message : Message
  pub sent : message_at (world_after given (take events es)).records.bag number ≡ Some message
  pub to : message.to ≡ n
  pub origin : Origin
  pub of : IsRequestOf message.body origin
  pub session : origin.session_id.vote.leader_id ≡ d
  pub node : NodeView
  pub is : node_at (world_after given (take events es)).nodes n ≡ Some node
  pub engine : EngineView
  pub runs : node.engine ≡ Some engine
  pub taken : rejects_vote nat_cmp engine.machine.core.state origin.session_id.vote ≡ false

-- a reply to a request with this origin that tells no vote above the request's
abbrev pub TellsNoVote : AppendEntriesResponse ℕ → Type 0
TellsNoVote (HigherVote v) = ⊥
TellsNoVote _ = Unit {0}

abbrev pub IsTaking : Body → Origin → Type 0
IsTaking (AppendReply o reply prev upto) p = (o ≡ p) × TellsNoVote reply
IsTaking (SnapshotReply o reply upto) p = (o ≡ p) × (is_lt (vote_cmp nat_cmp o.session_id.vote reply.vote) ≡ false)
IsTaking _ p = ⊥

-- who takes a request of d stores no later vote
abbrev pub TakersAreUnder : Given → List Event → Type 0
TakersAreUnder given es = (k n : ℕ) (d : LeaderId ℕ) → Takes given es k n d → StillUnder given es k n d

-- A reply to a leader's append or snapshot request that is sent after the first k events, and tells no vote above the
-- request's: its node takes a request of that leader's after them.
abbrev pub RepliesTell : Given → List Event → Type 0
RepliesTell given es =
    (k i : ℕ) (m : Message) (o : Origin)
    → length (world_after given (take k es)).records.bag ≤ i → slice_get (world_after given es).records.bag i ≡ Some m
    → IsTaking m.body o → Takes given es k m.from o.session_id.vote.leader_id

-- After the events `past` of a run, which goes on with `rest`, d leads on: of the membership that is effective in its node's
-- store a quorum consists of that node, and of nodes that store no vote above d's, then or later (Raft paper, section 8: a
-- leader exchanges heartbeats with a majority before it answers a read).
pub record LeadsOn (given : Given) (past rest : List Event) (d : LeaderId ℕ) : Type 0 where
  pub node : NodeView
  pub is : node_at (world_after given past).nodes d.node_id ≡ Some node
  pub nodes : List ℕ
  pub quorum : is_quorum nat_cmp (effective_in node.store).groups nodes ≡ true
  pub each : All (λ n. (n ≡ d.node_id) ⊎ StillUnder given (past ++ rest) (length past) n d) nodes

-- A read comes after the events before ++ first ∷ since, of which only `first` may start its node, and is answered; the
-- answering leader leads on. Then whatever was applied before the read, at any node, is in each applied list that reaches.
pub record IsRead (given : Given) (before : List Event) (first : Event) (since : List Event) (read : Event) (after : List Event) (a : Answer) : Type 0 where
  pub node : ℕ
  pub is : read.kind ≡ event.Read node
  pub runs : AllByRecursion (Leaves node) since
  pub answered : (world_after given (before ++ (first ∷ (since ++ read ∷ [])))).records.answers ≡ (world_after given (before ++ (first ∷ since))).records.answers ++ a ∷ []
  pub leads_on : LeadsOn given (before ++ (first ∷ since)) (read ∷ after) a.leader_id

-- the list reaches the end of the log that the answering node had stored before `first`
pub record ReachesLog (given : Given) (before : List Event) (a : Answer) (es : List Entry) : Type 0 where
  pub node : NodeView
  pub is : node_at (world_after given before).nodes a.leader_id.node_id ≡ Some node
  pub log : length (whole node.store) ≤ length es

-- the list reaches the read's answer, and that log too unless `first` is a bare start of the node: then it leads under no leader
-- id that it had stored before
pub record Reaches (given : Given) (before : List Event) (first : Event) (a : Answer) (es : List Entry) : Type 0 where
  pub answer : next a.log_id ≤ length es
  pub log : (first.kind ≡ event.Restart a.leader_id.node_id Bare) ⊎ ReachesLog given before a es

abbrev pub ReadsSeeAll : Given → List Event → Type 0
ReadsSeeAll given all =
    (before since after : List Event) (first read : Event) → all ≡ before ++ (first ∷ (since ++ read ∷ after)) → (a : Answer) → IsRead given before first since read after a
    → (i j : ℕ) (m : NodeView) → i < length (before ++ (first ∷ since)) → Contains (moment given all i j).nodes m
    → (k l : ℕ) (n : NodeView) → Contains (moment given all k l).nodes n → Reaches given before first a n.store.applied
    → take (length m.store.applied) n.store.applied ≡ m.store.applied
