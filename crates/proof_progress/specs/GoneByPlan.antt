-- The plan of a node with the greatest log, or that is a quorum alone, and what it does.
use Rattle.std.specs.Prelude.{ℕ, ◌+◌, ◌≡◌, ◌&&◌, ◌++◌, Bool, true, not, List, [], ◌∷◌, filter, length, nat_eq, slice_get, None, Some}
use Rattle.std.specs.List.{AllByRecursion}
use Rattle.std.specs.Ordering.{nat_cmp}
use Rattle.proof_deeds.specs.raft_state.declared.ids.LogId.{LogId}
use Rattle.proof_deeds.specs.raft_state.declared.membership.Members.{Members}
use Rattle.proof_deeds.specs.raft_state.Members.{learner_ids, voter_ids}
use Rattle.proof_deeds.specs.raft_state.Sorted.{has_id}
use Rattle.proof_deeds.specs.raft_progress.Quorum.{is_quorum}
use Rattle.proof_deeds.specs.raft_store.declared.entry.Entry.{Entry}
use Rattle.proof_deeds.specs.raft_store.declared.entry.Value.{Value}
use Rattle.proof_deeds.specs.raft_store.Types.{EngineView}
use Rattle.proof_deeds.specs.raft_schedule.declared.event.Event.{Event}
use Rattle.proof_deeds.specs.raft_node.declared.given.Given.{Given}
use Rattle.proof_deeds.specs.raft_node.Net.{Net, NodeView, node_at}
use Rattle.proof_deeds.specs.raft_node.Runs.{world_after}
use Rattle.proof_deeds.specs.raft_node.WellFormed.{IsWellFormed}
use Rattle.proof_progress.specs.Changes.{CanGoOnWith, HaveGoneOnWith}
use Rattle.proof_progress.specs.Continuations.{At}
use Rattle.proof_progress.specs.Elections.{Listed, log_end, members}
use Rattle.proof_progress.specs.GoesOn.{MayVote, all_members, found, greatest_term, last_moment}
use Rattle.proof_progress.specs.Plans.{way_on}

-- Of some nodes the voters of a membership but for one, and its learners but for it
abbrev pub is_voter_in : Members ℕ (Unit {0}) → ℕ → Bool
is_voter_in m t = has_id nat_cmp (voter_ids nat_cmp m) t

abbrev pub is_learner_in : Members ℕ (Unit {0}) → ℕ → Bool
is_learner_in m t = not (is_voter_in m t) && has_id nat_cmp (voter_ids nat_cmp m ++ learner_ids nat_cmp m) t

abbrev pub other_voters : Members ℕ (Unit {0}) → List ℕ → ℕ → List ℕ
other_voters m up n = filter (λ t. is_voter_in m t && not (nat_eq t n)) up

abbrev pub other_learners : Members ℕ (Unit {0}) → List ℕ → ℕ → List ℕ
other_learners m up n = filter (λ t. is_learner_in m t && not (nat_eq t n)) up

-- the plan by which a node, with those of its members that are up, commits values
abbrev pub plan : Given → Net (List Entry) → List ℕ → ℕ → List Value → List Event
plan given net up n values =
    elim (node_at net.nodes n) [
      | None ↦ []
      | Some N ↦ way_on given (last_moment net.nodes) n (greatest_term net.nodes + 1) (other_voters (members (found given N)) up n) (other_learners (members (found given N)) up n) values net
    ]

-- none of these nodes that is a quorum of its own membership alone has another member of it among them
abbrev pub AloneHaveNoOthers : Given → Net (List Entry) → List ℕ → Type 0
AloneHaveNoOthers given net up =
    (t : ℕ) (T : NodeView) → Listed up t → At net.nodes t T → is_quorum nat_cmp (members (found given T)).groups (t ∷ []) ≡ true
    → (u : ℕ) → Listed up u → Listed (all_members (found given T)) u → u ≡ t

-- a running node's log ends with an entry, which it has applied
pub record EndsWith (net : Net (List Entry)) (n : ℕ) (id : LogId ℕ) : Type 0 where
  pub node : NodeView
  pub at : At net.nodes n node
  pub engine : EngineView
  pub runs : node.engine ≡ Some engine
  pub end : log_end engine ≡ Some id
  pub entry : Entry
  pub has : slice_get node.store.applied id.index ≡ Some entry
  pub is : entry.log_id ≡ id

-- The plan of one of these nodes, that with the greatest log or a quorum alone, has made them go on: they elect it, and all members of its
-- membership among them have executed the values; its log ends with the last new entry
pub record GoneByPlan (given : Given) (past : List Event) (up : List ℕ) (greatest : ℕ) (values : List Value) : Type 0 where
  pub gone : HaveGoneOnWith given past up greatest values
  pub planned : gone.more ≡ plan given (world_after given past) up gone.n values
  pub ends : EndsWith (world_after given (past ++ gone.more)) gone.n gone.gone.id
  pub all : (t : ℕ) → Listed up t → Listed (all_members (found given gone.node)) t → Listed (gone.n ∷ gone.others) t
  pub among : AllByRecursion (Listed up) (other_voters (members (found given gone.node)) up gone.n)
  pub follow : AllByRecursion (MayVote given (world_after given past) (found given gone.node))
      (other_voters (members (found given gone.node)) up gone.n)
  pub quorum : is_quorum nat_cmp (members (found given gone.node)).groups (gone.n ∷ other_voters (members (found given gone.node)) up gone.n) ≡ true

-- So it is in each reached world from which nodes can go on by the greatest log, if a quorum alone has no other members among them
abbrev pub PlansGoOn : Type 0
PlansGoOn =
    (given : Given) → IsWellFormed given → (past : List Event) (up : List ℕ) (n : ℕ) (v : Value) (vs : List Value) → CanGoOnWith given (world_after given past) up n (length (v ∷ vs))
    → AloneHaveNoOthers given (world_after given past) up → GoneByPlan given past up n (v ∷ vs)
