-- Steps that a call takes at its server.
use Rattle.std.specs.Prelude.{ℕ, ◌≡◌, List, [], ◌∷◌, Ok, Option, map}
use Rattle.raft_calls.specs.declared.elections.Candidates.TheVariants.{AllMembers}
use Rattle.raft_node.specs.declared.act.Act.{Act}
use Rattle.raft_node.specs.declared.act.Act.TheVariants as acts
use Rattle.raft_node.specs.declared.given.Given.{Given}
use Rattle.raft_schedule.specs.declared.event.Outcome.{Outcome}
use Rattle.raft_peers.specs.proof_packed.Nodes.{PackedMessage, of_no_entries}
use Rattle.raft_peers.specs.proof_packed.Stores.{Application}
use Rattle.raft_peers.specs.proof_packed_servers.Servers.{PackedServer, PackedStep, packed_with_step}
use Rattle.raft_peers.specs.raft_packed_server.declared.error.ServerError.{ServerError}
use Rattle.raft_peers.specs.raft_packed_server.Represents.{Represents, Takes}
use Rattle.raft_peers.specs.raft_packed_server.declared.serving.Serving.{Serving}
use Rattle.raft_peers.specs.raft_packed_server.Views.{IsWithTaken, ServerView}
use Rattle.raft_core.specs.declared.moves.Move.{Move}
use Rattle.raft_core.specs.declared.moves.Move.TheVariants.{Beat, ChangeLearners, ChangeVoters, Fail, FinishSnapshot, Stand, StepDown}

-- a move's act: none takes a message
abbrev pub act_of : Move → Act
act_of Stand = acts.Elect AllMembers
act_of Beat = acts.SendHeartbeat
act_of (Fail target) = acts.Fail target
act_of StepDown = acts.StepDown
act_of FinishSnapshot = acts.FinishSnapshot
act_of (ChangeLearners learners) = acts.ChangeLearners learners
act_of (ChangeVoters groups learners) = acts.ChangeMembership groups learners

-- a message is taken at a moment, with the snapshot that it brings
abbrev pub step_taking : {S : Type 0} → ℕ → PackedMessage S → PackedStep S
step_taking at m = record { act = acts.Take m.message; brought = m.brought; at = at }

module _ {S : Type 0} (app : Application S) where
  -- an act at a moment, which brings no snapshot
  abbrev pub step_at : ℕ → Act → PackedStep S
  step_at at act = record { act = act; brought = of_no_entries app; at = at }

  -- steps at one moment
  abbrev pub steps_at : ℕ → List Act → List (PackedStep S)
  steps_at at todo = map (step_at at) todo

  -- a server of the model after steps, in order
  abbrev pub with_steps : Given → List (PackedStep S) → PackedServer S → PackedServer S
  with_steps given [] s = s
  with_steps given (step ∷ steps) s = with_steps given steps (packed_with_step app given step s)

  -- what a server has after steps, in order: each one's record as its log names it
  abbrev pub IsWithAllTaken : Given → List (PackedStep S) → Option (Serving S) → Option (Serving S) → Type 0
  IsWithAllTaken given [] old new = new ≡ old
  IsWithAllTaken given (step ∷ steps) old new = (mid : Option (Serving S)) × (IsWithTaken app given step old mid × IsWithAllTaken given steps mid new)

  -- These steps are taken, in order, and nothing else is done: whichever server of the model it stood for, it stands for that after the steps.
  pub record TakesSteps (todo : List (PackedStep S)) (old new : ServerView S) : Type 0 where
    pub given : new.given ≡ old.given
    pub taken : IsWithAllTaken old.given todo old.serving new.serving
    pub steps : (s : PackedServer S) → Represents app s old → Represents app (with_steps old.given todo s) new

  -- these acts are taken as steps, at this moment
  abbrev pub TakesActs : ℕ → List Act → ServerView S → ServerView S → Type 0
  TakesActs at todo old new = TakesSteps (steps_at at todo) old new

  -- one step, with its outcome
  pub record TakesStep (todo : PackedStep S) (old : ServerView S) (outcome : Outcome) (new : ServerView S) : Type 0 where
    pub given : new.given ≡ old.given
    pub taken : IsWithTaken app old.given todo old.serving new.serving
    pub step : Takes app {E = ServerError} todo old (Ok outcome) new

  -- one act, with its outcome
  abbrev pub TakesAct : ℕ → Act → ServerView S → Outcome → ServerView S → Type 0
  TakesAct at act old outcome new = TakesStep (step_at at act) old outcome new
