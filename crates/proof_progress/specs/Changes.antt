-- Nodes go on by themselves whatever voter groups events proposed: the groups of the greatest log count. Candidates are voters.
use Rattle.std.specs.Prelude.{ℕ, ◌<◌, ◌≤◌, ◌≡◌, ◌⊎◌, ◌++◌, IfSome, false, true, List, [], ◌∷◌, filter, length, map}
use Rattle.std.specs.List.{AllByRecursion}
use Rattle.std.specs.Ordering.{is_eq, is_le, nat_cmp}
use Rattle.proof_deeds.specs.raft_state.declared.ids.LogId.{LogId}
use Rattle.proof_deeds.specs.raft_state.declared.ids.Vote.{Vote}
use Rattle.proof_deeds.specs.raft_state.declared.membership.Members.{Members}
use Rattle.proof_deeds.specs.raft_state.Log.{last}
use Rattle.proof_deeds.specs.raft_state.Members.{voter_ids}
use Rattle.proof_deeds.specs.raft_state.Order.{last_id_cmp, vote_cmp}
use Rattle.proof_deeds.specs.raft_state.Sorted.{has_id}
use Rattle.proof_deeds.specs.raft_progress.Quorum.{is_quorum}
use Rattle.proof_deeds.specs.raft_store.declared.entry.Entry.{Entry}
use Rattle.proof_deeds.specs.raft_store.declared.entry.Payload.{Payload}
use Rattle.proof_deeds.specs.raft_store.declared.entry.Payload.TheVariants as payload
use Rattle.proof_deeds.specs.raft_store.declared.entry.Value.{Value}
use Rattle.proof_deeds.specs.raft_store.Built.{last_membership}
use Rattle.proof_deeds.specs.raft_store.Entries.{entry_meaning}
use Rattle.proof_deeds.specs.raft_store.Store.{whole}
use Rattle.proof_deeds.specs.raft_store.Types.{EngineView, WorldStore}
use Rattle.proof_deeds.specs.raft_schedule.declared.event.Event.{Event}
use Rattle.proof_deeds.specs.raft_schedule.declared.event.EventKind.{EventKind}
use Rattle.proof_deeds.specs.raft_schedule.declared.event.EventKind.TheVariants as kinds
use Rattle.proof_deeds.specs.raft_node.declared.given.Given.{Given}
use Rattle.proof_deeds.specs.raft_node.Net.{Net, NodeView}
use Rattle.proof_deeds.specs.raft_node.Runs.{world_after}
use Rattle.proof_deeds.specs.raft_node.WellFormed.{IsWellFormed}
use Rattle.proof_deeds.specs.Images.{number}
use Rattle.proof_progress.specs.Choices.{is_among}
use Rattle.proof_progress.specs.Continuations.{At}
use Rattle.proof_progress.specs.Elections.{Listed, log_end, members}
use Rattle.proof_progress.specs.GoesOn.{HasGoneOn, HasTerms, Reaches, all_members, first_new, found, greatest_term, log_then, most_of}
use Rattle.proof_progress.specs.Majorities.{HasIndexes}
use Rattle.proof_progress.specs.Proposals.{EachOnce}

-- the voters of an engine's effective membership among some ids
abbrev pub voters_among : EngineView → List ℕ → List ℕ
voters_among e up = filter (has_id nat_cmp (voter_ids nat_cmp (members e))) up

module _ (given : Given) (net : Net (List Entry)) (up : List ℕ) where
  -- one of these nodes, a voter of its own effective membership, joint or not: of that membership's voters among these nodes none has
  -- a log above its log
  pub record HasGreatestLog (n : ℕ) : Type 0 where
    pub one : Listed up n
    pub node : NodeView
    pub at : At net.nodes n node
    pub votes : Listed (voter_ids nat_cmp (members (found given node))) n
    pub top : (t : ℕ) (T : NodeView) → Listed (voters_among (found given node) up) t → At net.nodes t T → is_le (last_id_cmp nat_cmp (log_end (found given T)) (log_end (found given node))) ≡ true

  -- Nodes, each once, that can go on: one of them has such a log, and its voters among them are a majority of each of its groups. None
  -- of them needs its snapshot. Entries may be sent. There are numbers for the terms, the indexes and the requests
  pub record CanGoOnWith (n count : ℕ) : Type 0 where
    pub once : EachOnce up
    pub nodes : AllByRecursion (Listed (map (λ N. N.id) net.nodes)) up
    pub greatest : HasGreatestLog n
    pub quorum : is_quorum nat_cmp (members (found given greatest.node)).groups (voters_among (found given greatest.node) up) ≡ true
    pub reach : (t : ℕ) (T : NodeView) → Listed up t → At net.nodes t T → Reaches (found given greatest.node) (found given T)
    pub payload : 1 ≤ given.settings.max_payload_entries
    pub terms : AllByRecursion (HasTerms given) net.nodes
    pub room : AllByRecursion (HasIndexes given (length up) count) net.nodes

-- After more events one of these nodes has committed and executed the values in new entries: that with the greatest log, or a quorum
-- alone. If it isn't one, so have all members of its membership among these nodes
pub record HaveGoneOnWith (given : Given) (past : List Event) (up : List ℕ) (greatest : ℕ) (values : List Value) : Type 0 where
  pub n : ℕ
  pub one : Listed up n
  pub node : NodeView
  pub at : At (world_after given past).nodes n node
  pub votes : Listed (voter_ids nat_cmp (members (found given node))) n
  pub by : (n ≡ greatest) ⊎ (is_quorum nat_cmp (members (found given node)).groups (n ∷ []) ≡ true)
  pub others : List ℕ
  pub all : is_quorum nat_cmp (members (found given node)).groups (n ∷ []) ≡ false → (t : ℕ) → Listed up t → Listed (all_members (found given node)) t → Listed (n ∷ others) t
  pub more : List Event
  pub few : length more ≤ most_of (greatest_term (world_after given past).nodes) (length up) (length up) (log_then (found given node) (length values))
  pub gone : HasGoneOn given n (first_new (found given node)) values others (past ++ more)

-- So it is in each reached world, whatever groups events proposed, and whatever its votes, leases, messages and stopped nodes
abbrev pub ChangedCommit : Type 0
ChangedCommit =
    (given : Given) → IsWellFormed given → (past : List Event) (up : List ℕ) (n : ℕ) (v : Value) (vs : List Value) → CanGoOnWith given (world_after given past) up n (length (v ∷ vs))
    → HaveGoneOnWith given past up n (v ∷ vs)

-- Candidates, and leaders

-- an event lets no learner stand
abbrev pub OnlyVotersStand : EventKind → Type 0
OnlyVotersStand (kinds.Stand n) = ⊥
OnlyVotersStand _ = Unit {0}

-- an engine's candidate under its vote is a voter of its effective membership (Raft paper, section 6)
abbrev pub CandidateVotes : EngineView → Type 0
CandidateVotes e = IfSome e.machine.candidate (λ c. is_eq (vote_cmp nat_cmp c.vote e.machine.core.state.vote) ≡ true → Listed (voter_ids nat_cmp (members e)) e.config.id)

-- so it is of each running engine of each reached world in which no learner stood
abbrev pub CandidatesVote : Type 0
CandidatesVote =
    (given : Given) → IsWellFormed given → (past : List Event) → AllByRecursion (λ (e : Event). OnlyVotersStand e.kind) past
    → AllByRecursion (λ (N : NodeView). IfSome N.engine CandidateVotes) (world_after given past).nodes

-- an event that changes the voters leaves its node a voter
abbrev pub KeepsProposer : EventKind → Type 0
KeepsProposer (kinds.Change n groups learners) = is_among groups n ≡ true
KeepsProposer _ = Unit {0}

-- a vote by which the node was elected: its own, committed
abbrev pub OwnsVote : ℕ → Vote ℕ → Type 0
OwnsVote id v = (v.committed ≡ true) × (v.leader_id.node_id ≡ id)

-- the membership in effect by a node's whole log
abbrev pub stored_members : WorldStore → Members ℕ (Unit {0})
stored_members t = (last_membership entry_meaning (whole t)).membership

-- a node whose stored vote is such a vote is a voter of its stored membership
abbrev pub LeaderVotes : NodeView → Type 0
LeaderVotes N = OwnsVote N.id N.store.vote → Listed (voter_ids nat_cmp (stored_members N.store)) N.id

-- so it is of each node of each reached world in which no learner stood, and each proposer of a membership stayed a voter
abbrev pub LeadersVote : Type 0
LeadersVote =
    (given : Given) → IsWellFormed given → (past : List Event) → AllByRecursion (λ (e : Event). OnlyVotersStand e.kind × KeepsProposer e.kind) past
    → AllByRecursion LeaderVotes (world_after given past).nodes

-- an entry's membership, but that of the first entry, has the leader that proposed it as a voter
abbrev pub PayloadHasLeader : LogId ℕ → Payload → Type 0
PayloadHasLeader x payload.Blank = Unit {0}
PayloadHasLeader x (payload.Value v) = Unit {0}
PayloadHasLeader x (payload.Membership m) = (x.index ≡ 0) ⊎ Listed (voter_ids nat_cmp m) x.leader_id.node_id

abbrev pub HasItsLeader : Entry → Type 0
HasItsLeader e = PayloadHasLeader e.log_id e.payload

-- so has each entry of each whole log of such a world
abbrev pub MembershipsHaveLeaders : Type 0
MembershipsHaveLeaders =
    (given : Given) → IsWellFormed given → (past : List Event) → AllByRecursion (λ (e : Event). OnlyVotersStand e.kind × KeepsProposer e.kind) past
    → AllByRecursion (λ (N : NodeView). AllByRecursion HasItsLeader (whole N.store)) (world_after given past).nodes

-- what a bare start finds at a node is what is stored there: the membership in effect by the whole log, and its last id
abbrev pub FindsStored : Given → NodeView → Type 0
FindsStored given N = (members (found given N) ≡ stored_members N.store) × (log_end (found given N) ≡ last (map (λ (e : Entry). e.log_id) (whole N.store)))

-- so it is at each node of each reached world
abbrev pub StartsFindStored : Type 0
StartsFindStored = (given : Given) → IsWellFormed given → (past : List Event) → AllByRecursion (FindsStored given) (world_after given past).nodes

-- A node that is behind none

-- a node whose log ends with an entry of an elected leader
pub record HasElectedEnd (N : NodeView) : Type 0 where
  pub before : List Entry
  pub end : Entry
  pub log : whole N.store ≡ before ++ end ∷ []
  pub elected : 0 < number end.log_id.leader_id

-- In each reached world in which no learner stood, and each proposer of a membership stayed a voter, a node is a voter of its own membership
-- whose log none is above, once a log has an entry of an elected leader, or any node is a voter (Raft paper, sections 5.4.1 and 6)
abbrev pub GreatestLogsExist : Type 0
GreatestLogsExist =
    (given : Given) → IsWellFormed given → (past : List Event) → AllByRecursion (λ (e : Event). OnlyVotersStand e.kind × KeepsProposer e.kind) past
    → (t : ℕ) (T : NodeView) → At (world_after given past).nodes t T → HasElectedEnd T ⊎ Listed (voter_ids nat_cmp (members (found given T))) t
    → (n : ℕ) × HasGreatestLog given (world_after given past) (map (λ N. N.id) (world_after given past).nodes) n

-- Nodes, each once, that can go on by the log of one of them: of each group of its effective membership a majority is among them. None of them
-- needs its snapshot. Entries may be sent. There are numbers for the terms, the indexes and the requests
pub record CanGoOnBy (given : Given) (net : Net (List Entry)) (up : List ℕ) (n count : ℕ) : Type 0 where
  pub once : EachOnce up
  pub nodes : AllByRecursion (Listed (map (λ N. N.id) net.nodes)) up
  pub one : Listed up n
  pub node : NodeView
  pub at : At net.nodes n node
  pub quorum : is_quorum nat_cmp (members (found given node)).groups (voters_among (found given node) up) ≡ true
  pub reach : (t : ℕ) (T : NodeView) → Listed up t → At net.nodes t T → Reaches (found given node) (found given T)
  pub payload : 1 ≤ given.settings.max_payload_entries
  pub terms : AllByRecursion (HasTerms given) net.nodes
  pub room : AllByRecursion (HasIndexes given (length up) count) net.nodes

-- So in each such world there is a node by whose log any such nodes go on
abbrev pub ProposersCommit : Type 0
ProposersCommit =
    (given : Given) → IsWellFormed given → (past : List Event) → AllByRecursion (λ (e : Event). OnlyVotersStand e.kind × KeepsProposer e.kind) past
    → (t : ℕ) (T : NodeView) → At (world_after given past).nodes t T → HasElectedEnd T ⊎ Listed (voter_ids nat_cmp (members (found given T))) t
    → (n : ℕ) × ((up : List ℕ) (v : Value) (vs : List Value) → CanGoOnBy given (world_after given past) up n (length (v ∷ vs)) → HaveGoneOnWith given past up n (v ∷ vs))
