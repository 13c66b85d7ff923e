-- The ways on that the program tries: one for each node that can be elected.
use Rattle.std.specs.Prelude.{ℕ, ◌≡◌, ◌+◌, Bool, true, List, [], ◌∷◌, length, Option, Some}
use Rattle.std.specs.Option.{option_and_then}
use Rattle.raft_state.specs.declared.ids.LogId.{LogId}
use Rattle.raft_store.specs.declared.entry.Entry.{Entry}
use Rattle.raft_store.specs.declared.entry.Value.{Value}
use Rattle.raft_schedule.specs.declared.event.Event.{Event}
use Rattle.raft_calls.specs.declared.message.Body.{Body}
use Rattle.raft_calls.specs.declared.message.Message.{Message}
use Rattle.raft_node.specs.declared.given.Given.{Given}
use Rattle.raft_node.specs.Net.{Net}
use Rattle.raft_node.specs.Runs.{run, whole_logs, world_after}
use Rattle.raft_node.specs.WellFormed.{IsWellFormed}
use Rattle.raft_world.specs.Worlds.{WorldView}
use Rattle.proof_progress.specs.Changes.{CanGoOnWith}
use Rattle.proof_progress.specs.Continuations.{goes_on}
use Rattle.proof_progress.specs.Elections.{Listed, log_end}
use Rattle.proof_progress.specs.GoesOn.{greatest_term, last_moment}
use Rattle.proof_progress.specs.GoneByPlan.{AloneHaveNoOthers, other_learners, other_voters}
use Rattle.proof_progress.specs.Plans.{asks_vote, carries, running, sends, tells, way_on}
use Rattle.raft_recovery.specs.declared.messages.Contents.{Contents}
use Rattle.raft_recovery.specs.declared.messages.Contents.TheVariants as contents
use Rattle.raft_recovery.specs.declared.messages.Sought.{Sought}
use Rattle.raft_recovery.specs.declared.starting.Found.{Found}
use Rattle.raft_recovery.specs.Choosing.{found_at, is_elected}
use Rattle.raft_recovery.specs.Recoveries.{Recovers}

-- a world after events that it takes
unfoldable pub played : List Event → WorldView → WorldView
played es w = record w { history = run whole_logs w.given es w.history }

-- whether a body is the one that is sought, and whether a message is
abbrev pub has_contents : Contents → Body → Bool
has_contents (contents.VoteRequest v x) = asks_vote v x
has_contents (contents.Inflight s f) = carries s f
has_contents (contents.Committed v x) = tells v x

abbrev pub is_sought : Sought → Message → Bool
is_sought s = sends s.from s.to (has_contents s.contents)

-- the last id of a running node's log
abbrev pub last_id_at : Net (List Entry) → ℕ → Option (LogId ℕ)
last_id_at net n = option_and_then log_end (running net n)

module _ (given : Given) (net : Net (List Entry)) (up : List ℕ) (value : Value) where
  -- the way on of a node that finds this: its term rises past all stored ones
  abbrev pub way_of : ℕ → Found → List Event
  way_of n f =
      way_on given (last_moment net.nodes) n (greatest_term net.nodes + 1) (other_voters f.membership up n) (other_learners f.membership up n) (value ∷ []) net

  -- a node can be elected, and nodes recover by its way on
  pub record RecoversBy (n : ℕ) : Type 0 where
    pub found : Found
    pub at : found_at net.nodes n ≡ Some found
    pub elected : is_elected net.nodes up n found ≡ true
    pub id : LogId ℕ
    pub last : last_id_at (goes_on given (way_of n found) net) n ≡ Some id
    pub recovers : Recovers given net (goes_on given (way_of n found) net) up id value (length (way_of n found))

-- From each reached world from which nodes can go on by the greatest log, they recover by the way on of one of them, if a quorum alone has
-- no other members among them
abbrev pub WaysRecover : Type 0
WaysRecover =
    (given : Given) → IsWellFormed given → (past : List Event) (up : List ℕ) (n : ℕ) (value : Value) → CanGoOnWith given (world_after given past) up n 1
    → AloneHaveNoOthers given (world_after given past) up → (t : ℕ) × Listed up t × RecoversBy given (world_after given past) up value t
