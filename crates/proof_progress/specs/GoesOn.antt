-- From every reached world the cluster can go on: its nodes start again, one of them is elected, and it commits new entries.
use Rattle.std.specs.Prelude.{ℕ, ◌+◌, ◌*◌, ◌-◌, ◌<◌, ◌≤◌, ◌≡◌, ◌⊎◌, ◌++◌, false, true, max, List, [], ◌∷◌, length, Some}
use Rattle.std.specs.List.{AllByRecursion}
use Rattle.std.specs.Ordering.{is_lt, nat_cmp}
use Rattle.proof_deeds.specs.raft_state.declared.ids.LogId.{LogId}
use Rattle.proof_deeds.specs.raft_state.Members.{learner_ids, voter_ids}
use Rattle.proof_deeds.specs.raft_state.Order.{last_id_cmp, next}
use Rattle.proof_deeds.specs.raft_progress.Quorum.{is_quorum}
use Rattle.proof_deeds.specs.raft_proposer.Joint.{u64_max}
use Rattle.proof_deeds.specs.raft_store.declared.entry.Entry.{Entry}
use Rattle.proof_deeds.specs.raft_store.declared.entry.Value.{Value}
use Rattle.proof_deeds.specs.raft_store.Types.{EngineView}
use Rattle.proof_deeds.specs.raft_schedule.declared.event.Event.{Event}
use Rattle.proof_deeds.specs.raft_node.declared.given.Given.{Given}
use Rattle.proof_deeds.specs.raft_node.Net.{Net, NodeView}
use Rattle.proof_deeds.specs.raft_node.Runs.{world_after}
use Rattle.proof_deeds.specs.raft_node.Starts.{engine_on}
use Rattle.proof_deeds.specs.raft_node.WellFormed.{IsWellFormed}
use Rattle.proof_progress.specs.Choices.{leads_by_store}
use Rattle.proof_progress.specs.Commits.{HasValues}
use Rattle.proof_progress.specs.Continuations.{At}
use Rattle.proof_progress.specs.Elections.{Listed, log_end, members}
use Rattle.proof_progress.specs.Plans.{way_on}
use Rattle.proof_progress.specs.Proposals.{EachOnce}

-- the engine that a bare start finds at a node: its log is the stored one, and committed is what its snapshot has
abbrev pub found : Given → NodeView → EngineView
found given N = engine_on given.settings false N

-- the voters and the learners of an engine's effective membership
abbrev pub all_members : EngineView → List ℕ
all_members e = voter_ids nat_cmp (members e) ++ learner_ids nat_cmp (members e)

-- a node that leads by its stored vote isn't a quorum alone
abbrev pub NeedsOthers : Given → NodeView → Type 0
NeedsOthers given N = (leads_by_store false N ≡ false) ⊎ (is_quorum nat_cmp (members (found given N)).groups (N.id ∷ []) ≡ false)

-- a node's own snapshot, up to which its engine has committed as it starts, has all that was purged of a candidate's log
abbrev pub Reaches : EngineView → EngineView → Type 0
Reaches e f = next e.machine.core.state.purge_to ≤ next f.machine.core.state.committed

module _ (given : Given) (net : Net (List Entry)) (e : EngineView) where
  -- another member of a candidate's effective membership, which needs no snapshot
  pub record MayServe (t : ℕ) : Type 0 where
    pub member : Listed (all_members e) t
    pub node : NodeView
    pub at : At net.nodes t node
    pub others : NeedsOthers given node
    pub reaches : Reaches e (found given node)

  -- a voter of it, whose log the candidate's isn't behind
  pub record MayVote (t : ℕ) : Type 0 where
    pub voter : Listed (voter_ids nat_cmp (members e)) t
    pub node : NodeView
    pub at : At net.nodes t node
    pub ahead : is_lt (last_id_cmp nat_cmp (log_end e) (log_end (found given node))) ≡ false

-- there are two terms after a node's stored one, and an index after its log for a no-op entry
pub record HasTerms (given : Given) (N : NodeView) : Type 0 where
  pub terms : N.store.vote.leader_id.term + 1 < u64_max
  pub index : next (log_end (found given N)) < u64_max

-- the index of the first proposed entry, behind a candidate's log and its no-op entry, and the index after so many of them
abbrev pub first_new : EngineView → ℕ
first_new e = next (log_end e) + 1

abbrev pub log_then : EngineView → ℕ → ℕ
log_then e count = first_new e + count

-- A node that can be elected and commit so many entries: a voter of its effective membership, that isn't a quorum alone; with it a
-- quorum of each group are voters whose logs it isn't behind. Not all of its log is purged, and these nodes, and others that are to
-- have the entries as well, need no snapshot. Entries may be sent. There are numbers for the terms, the indexes and the requests
pub record CanGoOn (given : Given) (net : Net (List Entry)) (n count : ℕ) : Type 0 where
  pub node : NodeView
  pub at : At net.nodes n node
  pub voter : ℕ
  pub voters : List ℕ
  pub others : List ℕ
  pub once : EachOnce (n ∷ voter ∷ voters ++ others)
  pub votes : Listed (voter_ids nat_cmp (members (found given node))) n
  pub follow : AllByRecursion (MayVote given net (found given node)) (voter ∷ voters)
  pub quorum : is_quorum nat_cmp (members (found given node)).groups (n ∷ voter ∷ voters) ≡ true
  pub few : is_quorum nat_cmp (members (found given node)).groups (n ∷ []) ≡ false
  pub serve : AllByRecursion (MayServe given net (found given node)) (voter ∷ voters ++ others)
  pub payload : 1 ≤ given.settings.max_payload_entries
  pub terms : AllByRecursion (HasTerms given) net.nodes
  pub indexes : log_then (found given node) count ≤ u64_max
  pub numbers : length (voter ∷ voters ++ others) * (4 * log_then (found given node) count + 2) + 8 ≤ u64_max - 8

-- the greatest stored term
abbrev pub greatest_term : List NodeView → ℕ
greatest_term [] = 0
greatest_term (N ∷ nodes) = max N.store.vote.leader_id.term (greatest_term nodes)

-- the last moment of the nodes' events
abbrev pub last_moment : List NodeView → ℕ
last_moment [] = 0
last_moment (N ∷ nodes) = max N.moment (last_moment nodes)

-- its way on: its term rises past all stored ones
abbrev pub way_of : {given : Given} {net : Net (List Entry)} {n count : ℕ} → CanGoOn given net n count → List Value → List Event
way_of {given} {net} {n} c values = way_on given (last_moment net.nodes) n (greatest_term net.nodes + 1) (c.voter ∷ c.voters) c.others values net

-- how many events it takes at most, by the greatest term, the number of other voters, that of all other nodes, and the log's length
-- at the end: a start of each node, a timeout for each term, and a request and a reply for each voter; then the proposal, and a failure and
-- deliveries for each node
abbrev pub most_of : ℕ → ℕ → ℕ → ℕ → ℕ
most_of term voters others len = (1 + others) + (term + 2 + 2 * voters) + (1 + others * (4 * len + 2))

abbrev pub most : {given : Given} {net : Net (List Entry)} {n count : ℕ} → CanGoOn given net n count → ℕ
most {given} {net} {n} {count} c = most_of (greatest_term net.nodes) (length (c.voter ∷ c.voters)) (length (c.voter ∷ c.voters ++ c.others)) (log_then (found given c.node) count)

-- a node runs, and has committed and executed all entries up to an id, and these values from an index on
pub record HasExecuted (net : Net (List Entry)) (id : LogId ℕ) (first : ℕ) (values : List Value) (t : ℕ) : Type 0 where
  pub node : NodeView
  pub at : At net.nodes t node
  pub engine : EngineView
  pub runs : node.engine ≡ Some engine
  pub applied : id.index < length node.store.applied
  pub has : HasValues node.store.applied first values

-- after all of these events a node has committed and executed values in entries of its own, which are new and the last of its log, and
-- so have others
pub record HasGoneOn (given : Given) (n first : ℕ) (values : List Value) (ts : List ℕ) (all : List Event) : Type 0 where
  pub id : LogId ℕ
  pub own : id.leader_id.node_id ≡ n
  pub new : id.index + 1 ≡ first + length values
  pub each : AllByRecursion (HasExecuted (world_after given all) id first values) (n ∷ ts)

-- From every reached world, whatever its votes, leases, messages and stopped nodes, such a node is elected by its way on, and commits the
-- proposed values at all of these nodes
abbrev pub CanCommit : Type 0
CanCommit =
    (given : Given) → IsWellFormed given → (past : List Event) (n : ℕ) (v : Value) (vs : List Value) (c : CanGoOn given (world_after given past) n (length (v ∷ vs)))
    → (length (way_of c (v ∷ vs)) ≤ most c) × HasGoneOn given n (first_new (found given c.node)) (v ∷ vs) (c.voter ∷ c.voters ++ c.others) (past ++ way_of c (v ∷ vs))

-- A node that is a quorum alone, and can commit so many entries: there are two terms and indexes left. It needs no other node
pub record CanGoOnAlone (given : Given) (net : Net (List Entry)) (n count : ℕ) : Type 0 where
  pub node : NodeView
  pub at : At net.nodes n node
  pub votes : Listed (voter_ids nat_cmp (members (found given node))) n
  pub alone : is_quorum nat_cmp (members (found given node)).groups (n ∷ []) ≡ true
  pub payload : 1 ≤ given.settings.max_payload_entries
  pub terms : node.store.vote.leader_id.term + 1 < u64_max
  pub indexes : log_then (found given node) count ≤ u64_max

-- From every reached world such a node commits by three events: a start, a timeout, and the proposal
abbrev pub CanCommitAlone : Type 0
CanCommitAlone =
    (given : Given) → IsWellFormed given → (past : List Event) (n : ℕ) (v : Value) (vs : List Value) (c : CanGoOnAlone given (world_after given past) n (length (v ∷ vs)))
    → (more : List Event) × (length more ≤ 3) × HasGoneOn given n (first_new (found given c.node)) (v ∷ vs) [] (past ++ more)
