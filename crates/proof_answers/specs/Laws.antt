-- What is promised of clients of servers.
use Rattle.std.specs.Prelude.{ℕ, ◌<◌, ◌≡◌, Contains, List, ◌∷◌, ◌++◌, Some, slice_get, take}
use Rattle.proof_deeds.specs.raft_store.declared.entry.Entry.{Entry}
use Rattle.proof_deeds.specs.raft_store.declared.entry.Payload.TheVariants as payload
use Rattle.proof_deeds.specs.raft_store.declared.entry.Value.{Value}
use Rattle.proof_deeds.specs.raft_node.declared.given.Given.{Given}
use Rattle.proof_deeds.specs.raft_node.declared.record.Executed.{Executed}
use Rattle.proof_deeds.specs.raft_node.Net.{NodeView}
use Rattle.proof_deeds.specs.raft_node.WellFormed.{IsWellFormed}
use Rattle.proof_clients.specs.Objects.{IsLinearizable, Object, Operation}
use Rattle.proof_servers.specs.Servers.{Action, AllMayAct, Flushes, Step, new_cluster, outputs_of}
use Rattle.proof_answers.specs.Answers.{Executes, Proposed, TakesAt, Told}
use Rattle.proof_answers.specs.Histories.{IsHistory}
use Rattle.proof_answers.specs.Waiting.{waiting}

-- of servers that started empty, whatever they do and whenever they crash
abbrev pub OfAllActions : (Given → List Action → Type 0) → Type 0
OfAllActions P = (given : Given) → IsWellFormed given → (actions : List Action) → AllMayAct given actions (new_cluster given) → P given actions

-- Each history of their clients is linearizable, whatever the object. So an update that failed never takes effect.
abbrev pub SeeOne : {S R : Type 0} → Object S R → Given → List Action → Type 0
SeeOne m given actions = (updates queries : List (Operation _)) → IsHistory m given actions updates queries → IsLinearizable m (updates ++ queries)

-- a server that lets go of an executed entry has told of it: its state machine had taken it, at its index
abbrev pub TellExecuted : Given → List Action → Type 0
TellExecuted given actions =
    (id by flush : ℕ) (step : Step) (node : NodeView) (behind : List ℕ) → TakesAt given actions by id step node → slice_get actions flush ≡ Some (Flushes id)
    → waiting id (take flush actions) ≡ by ∷ behind → (y : Executed) → Contains (outputs_of given node step).executed y
    → (commands : ℕ) × (taken : List Entry) × Told given actions id flush commands taken × (slice_get taken y.entry.log_id.index ≡ Some y.entry)

-- what servers tell of was proposed by an earlier action (validity)
abbrev pub TellProposed : Given → List Action → Type 0
TellProposed given actions =
    (id flush commands : ℕ) (taken : List Entry) → Told given actions id flush commands taken → (i : ℕ) (x : Entry) (v : Value) → slice_get taken i ≡ Some x → x.payload ≡ payload.Value v
    → (call : ℕ) × (call < flush) × Proposed given actions call v x

-- what some server has told of stands below each entry that is proposed later, and then executed
abbrev pub TellInOrder : Given → List Action → Type 0
TellInOrder given actions =
    (id flush commands : ℕ) (taken : List Entry) → Told given actions id flush commands taken → (i : ℕ) (x : Entry) → slice_get taken i ≡ Some x
    → (call : ℕ) (v : Value) (y : Entry) → flush < call → Proposed given actions call v y → (later after : ℕ) → Executes given actions call y later after → i < y.log_id.index
