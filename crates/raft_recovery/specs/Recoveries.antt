-- A way on from a world, as events, or what the world lacks that has none (Raft paper, sections 5.2 to 5.4).
use Rattle.std.specs.Prelude.{ℕ, ◌≡◌, ◌≤◌, ◌++◌, All, Bool, false, true, List, [], ◌∷◌, Some, None, drop, length, map, slice_get}
use Rattle.std.specs.List.{AllByRecursion}
use Rattle.std.specs.Ordering.{nat_cmp}
use Rattle.raft_state.specs.declared.ids.LogId.{LogId}
use Rattle.raft_state.specs.Members.{voter_ids}
use Rattle.raft_state.specs.Sorted.{IsSound}
use Rattle.raft_progress.specs.Quorum.{is_quorum}
use Rattle.raft_store.specs.declared.entry.Entry.{Entry}
use Rattle.raft_store.specs.declared.entry.Value.{Value}
use Rattle.raft_schedule.specs.declared.event.AppliedEvent.{AppliedEvent}
use Rattle.raft_schedule.specs.declared.event.Event.{Event}
use Rattle.raft_schedule.specs.declared.event.Outcome.{Outcome}
use Rattle.raft_schedule.specs.declared.event.Outcome.TheVariants.{Skipped}
use Rattle.raft_node.specs.declared.given.Given.{Given}
use Rattle.raft_node.specs.Net.{Net, NodeView}
use Rattle.raft_node.specs.Runs.{world_after}
use Rattle.raft_node.specs.WellFormed.{IsWellFormed}
use Rattle.raft_world.specs.Worlds.{WorldView, events_in}
use Rattle.proof_progress.specs.Changes.{CanGoOnWith}
use Rattle.proof_progress.specs.Continuations.{At}
use Rattle.proof_progress.specs.Elections.{Listed, log_end, members}
use Rattle.proof_progress.specs.GoesOn.{HasExecuted, MayVote, Reaches, all_members, first_new, found, greatest_term, log_then, most_of}
use Rattle.proof_progress.specs.GoneByPlan.{AloneHaveNoOthers}
use Rattle.proof_progress.specs.Groups.{LeavesVoters}
use Rattle.proof_progress.specs.Majorities.{HaveGoneOn}
use Rattle.proof_progress.specs.Proposals.{EachOnce}
use Rattle.raft_recovery.specs.declared.error.RecoveryError.{RecoveryError}
use Rattle.raft_recovery.specs.declared.error.RecoveryError.TheVariants.{Repeated, NoNode, NoPayload, NoLog, NoMajority, NeedsSnapshot, Stuck, Failed}
use Rattle.raft_recovery.specs.declared.recovery.Recovery.{Recovery}

-- these events come behind those of a world
pub record GoesBy (old : WorldView) (es : List Event) (new : WorldView) : Type 0 where
  pub given : new.given ≡ old.given
  pub unspent : new.spent ≡ false
  pub events : events_in new ≡ events_in old ++ es

-- some events do
abbrev pub GoesOn : WorldView → WorldView → Type 0
GoesOn old new = (es : List Event) × GoesBy old es new

-- a node has applied the entry with this id
pub record HasApplied (net : Net (List Entry)) (n : ℕ) (id : LogId ℕ) : Type 0 where
  pub node : NodeView
  pub at : At net.nodes n node
  pub entry : Entry
  pub has : slice_get node.store.applied id.index ≡ Some entry
  pub is : entry.log_id ≡ id

-- a node runs, and has committed and executed all entries up to an id, and the value at its index
abbrev pub HasExecutedAt : Net (List Entry) → LogId ℕ → Value → ℕ → Type 0
HasExecutedAt net id value t = HasExecuted net id id.index (value ∷ []) t

-- In the later of two worlds, so many events on, one of these nodes, a voter of its own membership, has committed and executed a value
-- in a new entry of its own; so have all other members of that membership among these nodes, learners too. Unless the node is a quorum
-- alone, the entry is the first behind its log and its no-op entry
pub record Recovers (given : Given) (before after : Net (List Entry)) (up : List ℕ) (id : LogId ℕ) (value : Value) (count : ℕ) : Type 0 where
  pub one : Listed up id.leader_id.node_id
  pub node : NodeView
  pub at : At before.nodes id.leader_id.node_id node
  pub votes : Listed (voter_ids nat_cmp (members (found given node))) id.leader_id.node_id
  pub others : List ℕ
  pub all : (t : ℕ) → Listed up t → Listed (all_members (found given node)) t → Listed (id.leader_id.node_id ∷ others) t
  pub new : first_new (found given node) ≤ id.index
  pub first : is_quorum nat_cmp (members (found given node)).groups (id.leader_id.node_id ∷ []) ≡ false → id.index ≡ first_new (found given node)
  pub entry : HasApplied after id.leader_id.node_id id
  pub each : AllByRecursion (HasExecutedAt after id value) (id.leader_id.node_id ∷ others)
  pub few : count ≤ most_of (greatest_term before.nodes) (length up) (length up) (log_then (found given node) 1)

-- a world goes on by events that were tried, and recovers by them
pub record RecoversBehind (old : WorldView) (up : List ℕ) (value : Value) (r : Recovery) (new : WorldView) : Type 0 where
  pub goes : GoesBy old r.events new
  pub recovers : Recovers old.given old.history.net new.history.net up r.log_id value (length r.events)

-- an event happened: it wasn't skipped
abbrev pub is_happened : Outcome → Bool
is_happened (Skipped reason) = false
is_happened _ = true

abbrev pub happened : AppliedEvent → Bool
happened p = is_happened p.outcome

-- a world goes on by these events, of which none is skipped, and recovers by them
pub record GoesOnBy (old : WorldView) (up : List ℕ) (value : Value) (r : Recovery) (new : WorldView) : Type 0 where
  pub goes : GoesBy old r.events new
  pub recovers : Recovers old.given old.history.net new.history.net up r.log_id value (length r.events)
  pub happened : All (λ p. happened p ≡ true) (drop (length old.history.past) new.history.past)

-- a node has no log
abbrev pub LacksLog : Given → Net (List Entry) → ℕ → Type 0
LacksLog given net t = (T : NodeView) → At net.nodes t T → log_end (found given T) ≡ None

-- what was purged of a node's log isn't in another node's own snapshot
pub record LacksSnapshot (given : Given) (net : Net (List Entry)) (n t : ℕ) : Type 0 where
  pub node : NodeView
  pub at : At net.nodes n node
  pub behind : NodeView
  pub there : At net.nodes t behind
  pub lacks : Reaches (found given node) (found given behind) → ⊥

module _ (given : Given) (net : Net (List Entry)) (up : List ℕ) where
  -- One of these nodes that they can elect, as all start anew: a voter of its effective membership; with it a quorum of each group are
  -- voters among them whose logs its own isn't behind
  pub record IsElectable (n : ℕ) : Type 0 where
    pub one : Listed up n
    pub node : NodeView
    pub at : At net.nodes n node
    pub votes : Listed (voter_ids nat_cmp (members (found given node))) n
    pub voters : List ℕ
    pub among : AllByRecursion (Listed up) voters
    pub follow : AllByRecursion (MayVote given net (found given node)) voters
    pub quorum : is_quorum nat_cmp (members (found given node)).groups (n ∷ voters) ≡ true

  -- none of these nodes has a log
  abbrev pub LackLogs : Type 0
  LackLogs = (t : ℕ) → Listed up t → LacksLog given net t

-- why these nodes of a world don't go on
abbrev pub IsReason : WorldView → List ℕ → RecoveryError → Type 0
IsReason w up (Repeated n) = EachOnce up → ⊥
IsReason w up (NoNode n) = Listed up n × (Listed (map (λ N. N.id) w.history.net.nodes) n → ⊥)
IsReason w up NoPayload = 1 ≤ w.given.settings.max_payload_entries → ⊥
IsReason w up NoLog = LackLogs w.given w.history.net up
IsReason w up NoMajority = (n : ℕ) → IsElectable w.given w.history.net up n → ⊥
IsReason w up (NeedsSnapshot n t) = Listed up n × Listed up t × LacksSnapshot w.given w.history.net n t
IsReason w up Stuck = Unit {0}
IsReason w up (Failed _) = Unit {0}

-- These nodes can go on by the greatest log, as `can_commit` of `proof_progress` proves; a quorum alone has no other members among them. Nor
-- was the world ever out of memory
pub record CanRecover (w : WorldView) (up : List ℕ) : Type 0 where
  pub unspent : w.spent ≡ false
  pub greatest : ℕ
  pub can : CanGoOnWith w.given w.history.net up greatest 1
  pub alone : AloneHaveNoOthers w.given w.history.net up

-- memory ends, or the world's limits are reached
abbrev pub IsLimit : RecoveryError → Type 0
IsLimit (Failed _) = Unit {0}
IsLimit _ = ⊥

-- Where no event of the past proposed other voter groups, this is what is proved to be possible: the nodes have gone on. (A quorum alone
-- may have needed a second no-op entry, if a learner had stored a greater vote)
abbrev pub RecoveriesGoOn : Type 0
RecoveriesGoOn =
    (given : Given) → IsWellFormed given → IsSound nat_cmp given.membership.groups given.membership.nodes → (past es : List Event)
    → AllByRecursion (λ (e : Event). LeavesVoters e.kind) past → (up : List ℕ) (id : LogId ℕ) (value : Value)
    → (r : Recovers given (world_after given past) (world_after given (past ++ es)) up id value (length es))
    → id.index ≡ first_new (found given r.node) → HaveGoneOn given given.membership.groups past up (value ∷ [])
