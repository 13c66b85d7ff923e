-- What an engine lends to the handler of a leader.
use Rattle.std.specs.Prelude.{◌≡◌, Option, None, Some, Result, Ok, Err, OnSome, is_none, [], ◌∷◌}
use Rattle.std.specs.declared.cmp.Ordering.{Ordering}
use Rattle.raft_state.specs.State.{known_leader, known_leader_node}
use Rattle.raft_error.specs.Number.{first_refusal}
use Rattle.raft_error.specs.declared.error.EngineError.{EngineError}
use Rattle.raft_error.specs.declared.error.EngineError.TheVariants.{ForwardToLeader, Spent}
use Rattle.raft_command.specs.declared.message.Token.{Token}
use Rattle.raft_engine.specs.declared.engine.Engine.{Engine}
use Rattle.raft_handler_vote.specs.raft_handler_leader.declared.leader_handler.LeaderHandler.{LeaderHandler}
use Rattle.raft_steps.specs.Refusals.{is_spent}
use Rattle.raft_handler_vote.specs.raft_handler_leader.Handlers.{view_of_leader}
use Rattle.raft_steps.specs.Parts.{Machine, led_in}
use Rattle.raft_engine.specs.Whole.{parts}

module _ {C NID N E D R S : Type 0} (cmp : NID → NID → Ordering) where
  -- the refusals of asking for the leader: `Spent`, and `ForwardToLeader` with the known leader and its data if this node
  -- doesn't lead
  abbrev pub refusals_of_leader : Option N → Machine C NID N E D R S → Option (EngineError NID N)
  refusals_of_leader node m = first_refusal ((is_spent m, Spent) ∷ (is_none m.leader, ForwardToLeader (known_leader cmp m.core.state) node) ∷ [])

  -- the handler borrows the engine's parts; a refusal may leave out the known leader's data (out of memory)
  abbrev pub LeaderLent : Engine C NID N E D R S → Result (LeaderHandler C NID N E D R S) (EngineError NID N) → Type 0
  LeaderLent e (Ok h) = (refusals_of_leader None (parts e) ≡ None) × (h.config.now ≡ e.config) × (led_in (parts e) ≡ Some (view_of_leader h))
  LeaderLent e (Err x) = (node : Option N) × OnSome node (node ≡ known_leader_node cmp e.state) × (refusals_of_leader node (parts e) ≡ Some x)

  -- the same with the caller's token, which is handed back either way
  abbrev pub LeaderLentFor : Engine C NID N E D R S → Option Token → Result (LeaderHandler C NID N E D R S × Option Token) (EngineError NID N × Option Token) → Type 0
  LeaderLentFor e token (Ok given) = LeaderLent e (Ok given.0) × (given.1 ≡ token)
  LeaderLentFor e token (Err refused) = LeaderLent e (Err refused.0) × (refused.1 ≡ token)
