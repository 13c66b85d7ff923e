-- A majority of each group can go on by itself, whatever the other nodes do, where no event proposed other voter groups.
use Rattle.std.specs.Prelude.{ℕ, ◌+◌, ◌*◌, ◌-◌, ◌≤◌, ◌≡◌, ◌≢◌, ◌++◌, false, true, List, ◌∷◌, [], length, map, None}
use Rattle.std.specs.List.{AllByRecursion}
use Rattle.std.specs.Ordering.{nat_cmp}
use Rattle.proof_deeds.specs.raft_state.Sorted.{IsSound}
use Rattle.proof_deeds.specs.raft_progress.Quorum.{is_quorum}
use Rattle.proof_deeds.specs.raft_proposer.Joint.{u64_max}
use Rattle.proof_deeds.specs.raft_store.declared.entry.Entry.{Entry}
use Rattle.proof_deeds.specs.raft_store.declared.entry.Value.{Value}
use Rattle.proof_deeds.specs.raft_schedule.declared.event.Event.{Event}
use Rattle.proof_deeds.specs.raft_node.declared.given.Given.{Given}
use Rattle.proof_deeds.specs.raft_node.Net.{Net, NodeView}
use Rattle.proof_deeds.specs.raft_node.Runs.{world_after}
use Rattle.proof_deeds.specs.raft_node.WellFormed.{IsWellFormed}
use Rattle.proof_progress.specs.Choices.{is_among}
use Rattle.proof_progress.specs.Continuations.{At}
use Rattle.proof_progress.specs.Elections.{Listed, log_end}
use Rattle.proof_progress.specs.GoesOn.{HasGoneOn, HasTerms, Reaches, all_members, first_new, found, greatest_term, log_then, most_of}
use Rattle.proof_progress.specs.Groups.{LeavesVoters}
use Rattle.proof_progress.specs.Proposals.{EachOnce}

-- there are indexes for so many proposed entries after a node's log, and numbers to send it to so many nodes
pub record HasIndexes (given : Given) (nodes count : ℕ) (N : NodeView) : Type 0 where
  pub indexes : log_then (found given N) count ≤ u64_max
  pub numbers : nodes * (4 * log_then (found given N) count + 2) + 8 ≤ u64_max - 8

module _ (given : Given) (groups : List (List ℕ)) (net : Net (List Entry)) (up : List ℕ) where
  -- one of these nodes is a voter and has a log
  pub record SomeHasLog : Type 0 where
    pub voter : ℕ
    pub one : Listed up voter
    pub among : is_among groups voter ≡ true
    pub node : NodeView
    pub at : At net.nodes voter node
    pub some : log_end (found given node) ≢ None

  -- Nodes, each once, that can go on: they are a majority of each group, and a voter among them has a log. None of them needs a
  -- snapshot. Entries may be sent. There are numbers for the terms, the indexes and the requests
  pub record CanGoOnAmong (count : ℕ) : Type 0 where
    pub once : EachOnce up
    pub nodes : AllByRecursion (Listed (map (λ N. N.id) net.nodes)) up
    pub quorum : is_quorum nat_cmp groups up ≡ true
    pub log : SomeHasLog
    pub reach : (n t : ℕ) (N T : NodeView) → Listed up n → Listed up t → At net.nodes n N → At net.nodes t T → Reaches (found given N) (found given T)
    pub payload : 1 ≤ given.settings.max_payload_entries
    pub terms : AllByRecursion (HasTerms given) net.nodes
    pub room : AllByRecursion (HasIndexes given (length up) count) net.nodes

-- After more events one of these nodes, a voter, has committed and executed the values in new entries. So have all voters among these
-- nodes, and all learners among them unless the voter is a quorum alone
pub record HaveGoneOn (given : Given) (groups : List (List ℕ)) (past : List Event) (up : List ℕ) (values : List Value) : Type 0 where
  pub n : ℕ
  pub one : Listed up n
  pub among : is_among groups n ≡ true
  pub node : NodeView
  pub at : At (world_after given past).nodes n node
  pub others : List ℕ
  pub voters : (t : ℕ) → Listed up t → is_among groups t ≡ true → Listed (n ∷ others) t
  pub learners : is_quorum nat_cmp groups (n ∷ []) ≡ false → (t : ℕ) → Listed up t → Listed (all_members (found given node)) t → Listed (n ∷ others) t
  pub more : List Event
  pub few : length more ≤ most_of (greatest_term (world_after given past).nodes) (length up) (length up) (log_then (found given node) (length values))
  pub gone : HasGoneOn given n (first_new (found given node)) values others (past ++ more)

-- so it is in each reached world in which no event proposed other voter groups, whatever its votes, leases, messages and stopped nodes
abbrev pub MajoritiesCommit : Type 0
MajoritiesCommit =
    (given : Given) → IsWellFormed given → IsSound nat_cmp given.membership.groups given.membership.nodes → (past : List Event) → AllByRecursion (λ (e : Event). LeavesVoters e.kind) past → (up : List ℕ) (v : Value) (vs : List Value)
    → CanGoOnAmong given given.membership.groups (world_after given past) up (length (v ∷ vs)) → HaveGoneOn given given.membership.groups past up (v ∷ vs)
