-- Reads of a server's clients that need no entry in the log, beside the actions of the model's servers: by which step they were asked for, and
-- when an answer to one is true (Raft paper, section 8).
use Rattle.std.specs.Prelude.{ℕ, ◌+◌, ◌<◌, ◌≤◌, ◌≡◌, ◌≢◌, ◌⊎◌, IfSome, List, [], ◌∷◌, length, Option, Some, slice_get}
use Rattle.std.specs.List.{AllByRecursion}
use Rattle.raft_state.specs.Order.{next}
use Rattle.raft_store.specs.declared.entry.Entry.{Entry}
use Rattle.raft_schedule.specs.declared.event.Start.{Start}
use Rattle.raft_calls.specs.declared.lead.Answer.{Answer}
use Rattle.raft_node.specs.declared.act.Act.TheVariants.{Read, Restart}
use Rattle.raft_node.specs.declared.given.Given.{Given}
use Rattle.raft_node.specs.Chosen.{effective_in}
use Rattle.proof_servers.specs.Servers.{Action, Crashes, Step, Takes, node_after, outputs_of}
use Rattle.proof_answers.specs.Answers.{Told, node_then}
use Rattle.proof_answers.specs.Reads.{Hears, IsRead}
use Rattle.proof_requests.specs.Requests.{Asked}

-- the state machine has taken as many entries as were handed out, up to this index; or none was, or it isn't known
abbrev pub IsHanded : List Entry → Option ℕ → Type 0
IsHanded applied last = IfSome last (λ index. length applied ≡ index + 1)

-- the server takes no start as a step: it starts after a crash alone
abbrev pub StartsBare : List Action → ℕ → Type 0
StartsBare actions id = (number at : ℕ) (start : Start) → slice_get actions number ≢ Some (Takes id (record { act = Restart start; at = at }))

module _ (given : Given) (actions : List Action) (id : ℕ) where
  -- By this action the server asked its node, which gave this answer, at this moment, under these groups; it has heard these nodes since,
  -- itself without a reply, and hasn't crashed.
  pub record IsAskedFor (read : ℕ) (answer : Answer) (moment : ℕ) (groups : List (List ℕ)) (heard : List ℕ) : Type 0 where
    pub step : Step
    pub takes : slice_get actions read ≡ Some (Takes id step)
    pub is : step.act ≡ Read
    pub answered : (outputs_of given (node_then given actions read id) step).answers ≡ answer ∷ []
    pub moment_is : moment ≡ (node_after given (node_then given actions read id) step).moment
    pub groups_are : groups ≡ (effective_in (node_then given actions read id).store).groups
    pub hears : AllByRecursion (λ n. (n ≡ id) ⊎ Hears actions id (length actions) moment answer.leader_id n) heard
    pub runs : (number k at : ℕ) → read < number → slice_get actions number ≢ Some (Crashes id k at)

  -- A read is done: its server asked its node once it had come, and has heard from a quorum by an action; and by then it has told of what its
  -- state machine had taken in that step or a later one: all up to the answer's log id, and all up to this index.
  pub record IsReadDone (a : Asked) (index : ℕ) : Type 0 where
    pub read : ℕ
    pub later : a.came ≤ read
    pub upto : ℕ
    pub answer : Answer
    pub is : IsRead given actions id read upto answer
    pub entries : List Entry
    pub flush : ℕ
    pub early : flush ≤ upto
    pub commands : ℕ
    pub told : Told given actions id flush commands entries
    pub since : read ≤ told.by
    pub reaches : next answer.log_id ≤ length entries
    pub index_is : index + 1 ≡ length entries
