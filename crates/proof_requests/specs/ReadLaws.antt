-- What each call does with the reads of a server's clients: they stay beside the model, and what they are told is true.
use Rattle.std.specs.Prelude.{ℕ, ◌<◌, ◌≤◌, ◌≡◌, Contains, true, List, [], ◌∷◌, ◌++◌, length, take, if◌then◌else◌}
use Rattle.std.specs.List.{AllByRecursion}
use Rattle.raft_calls.specs.declared.lead.Answer as node_answer
use Rattle.raft_codec.specs.Codec.{Codec}
use Rattle.raft_node.specs.declared.given.Given.{Given}
use Rattle.raft_node.specs.WellFormed.{IsWellFormed}
use Rattle.proof_servers.specs.Servers.{Action, AllMayAct, Step, WaitingStep, new_cluster}
use Rattle.proof_packed.specs.Stores.{Application}
use Rattle.raft_core.specs.proof_packed_servers.Servers.{PackedStep}
use Rattle.proof_answers.specs.Waiting.{waiting}
use Rattle.raft_answers.specs.declared.answer.Answer.{Answer}
use Rattle.raft_answers.specs.declared.answer.Answer.TheVariants.{Ok}
use Rattle.raft_answers.specs.declared.answer.Reply.{Reply}
use Rattle.raft_answers.specs.declared.request.Operation.TheVariants.{Read}
use Rattle.raft_answers.specs.declared.request.Token.{Token}
use Rattle.raft_core.specs.raft_peers.declared.output.Output.{Output}
use Rattle.raft_core.specs.raft_reads.declared.reads.Reader.{Reader}
use Rattle.raft_core.specs.Calls.{AdmitsRead, Receives, Releases, Ticks, Writes}
use Rattle.raft_core.specs.Laws.{read_replies_of}
use Rattle.raft_core.specs.raft_reads.Reads.{ReadsView, RoundView}
use Rattle.raft_core.specs.Views.{CoreView}
use Rattle.proof_requests.specs.Actions.{AreSteps, Initializes, flushes, initialized, received, released, taking, ticked, written}
use Rattle.proof_requests.specs.OnDisk.{flushed_node}
use Rattle.proof_requests.specs.Reading.{IsAskedFor, IsHanded, IsReadDone, StartsBare}
use Rattle.proof_requests.specs.Requests.{AllPairs, Asked, IsCore, Placed, server_after}

-- what the steps that wait answer
abbrev pub answers_waiting : List WaitingStep → List node_answer.Answer
answers_waiting [] = []
answers_waiting (w ∷ ws) = w.outputs.answers ++ answers_waiting ws

-- what the node has answered, and what hasn't left
abbrev pub pending : List RoundView → List node_answer.Answer
pending [] = []
pending (o ∷ os) = if o.left then pending os else o.answer ∷ pending os

module _ (given : Given) (actions : List Action) (id : ℕ) where
  -- a round of the first of these reads, which had come when one step asked for them; that step is on disk once the answer has left
  pub record IsRound (reading : List Asked) (o : RoundView) : Type 0 where
    pub read : ℕ
    pub is_asked_for : IsAskedFor given actions id read o.answer o.moment o.groups o.heard
    pub count : o.asked ≤ length reading
    pub came : AllByRecursion (λ a. a.came ≤ read) (take o.asked reading)
    pub on_disk : o.left ≡ true → Contains (waiting id actions) read → ⊥

  -- a read without an answer is one that was asked
  pub record IsOpenRead (x : Reader) (a : Asked) : Type 0 where
    pub token : x.token ≡ a.token
    pub came : a.came ≤ length actions

  -- the reads without an answer are those that were asked, in their order, and each round is of the first of them; one answer waits at most
  pub record AreReads (r : ReadsView) (reading : List Asked) : Type 0 where
    pub open_are : AllPairs IsOpenRead r.readers reading
    pub rounds : AllByRecursion (IsRound reading) r.rounds
    pub one : length (pending r.rounds) ≤ 1

  -- A server's reads beside the model: it has handed out what the state machine had taken by the last step on disk, and its steps that wait say
  -- the last round's answer, or none.
  pub record IsReader {S : Type 0} (v : CoreView S) (reading : List Asked) : Type 0 where
    pub bare : StartsBare actions id
    pub handed : IsHanded (flushed_node given actions id).store.applied v.executed
    pub pending_is : answers_waiting (server_after given actions id).waiting ≡ pending v.reads.rounds
    pub reads : AreReads v.reads reading

  -- A read that is told an index is done, by an action before; of any other answer nothing is said: a read has no effect.
  abbrev pub IsReadTrue : Asked → Answer → Type 0
  IsReadTrue a (Ok index) = (d : IsReadDone given actions id a index) × (d.upto < length actions)
  IsReadTrue a x = Unit {0}

  pub record IsReadAnswered (a : Asked) (r : Reply) : Type 0 where
    pub token : r.token ≡ a.token
    pub true : IsReadTrue a r.answer

  -- the first of the reads got these replies, in their order, and the others are left
  pub record AreReadAnswered (reading : List Asked) (replies : List Reply) (left : List Asked) : Type 0 where
    pub closed : List Asked
    pub all : reading ≡ closed ++ left
    pub each : AllPairs IsReadAnswered closed replies

-- what a call does with reads, beside these actions
pub record KeepsReads {S : Type 0} (given : Given) (actions : List Action) (id : ℕ) (reading : List Asked) (out : List (Output S))
    (new : CoreView S) (took : List Action) : Type 0 where
  pub left : List Asked
  pub answered : AreReadAnswered given (actions ++ took) id reading (read_replies_of out) left
  pub reader : IsReader given (actions ++ took) id new left

module _ {S : Type 0} (app : Application S) where
  -- each call of this kind does so, by whichever steps of the model's server are the call's, packed, and may be taken there
  abbrev pub OfReadCalls : (Does : CoreView S → List (Output S) → CoreView S → Type 0)
      → ((old : CoreView S) (out : List (Output S)) (new : CoreView S) → Does old out new → List (PackedStep S)) → Type 0
  OfReadCalls Does taken =
      (given : Given) → IsWellFormed given → (actions : List Action) → AllMayAct given actions (new_cluster given)
      → (placed : List Placed) (id : ℕ) (asked reading : List Asked) (old new : CoreView S) (out : List (Output S))
      → IsCore app given actions placed id old asked → IsReader given actions id old reading → (d : Does old out new)
      → (steps : List Step) → AreSteps app steps (taken old out new d) → AllMayAct given (actions ++ taking id steps) (new_cluster given)
      → KeepsReads given actions id reading out new (taking id steps)

  -- records came on disk, up to this position
  abbrev pub OfReadReleases : Codec S → ℕ → Type 0
  OfReadReleases c position =
      (given : Given) → IsWellFormed given → (actions : List Action) → AllMayAct given actions (new_cluster given)
      → (placed : List Placed) (id : ℕ) (asked reading : List Asked) (old new : CoreView S) (out : List (Output S))
      → IsCore app given actions placed id old asked → IsReader given actions id old reading → Releases app c position old out new
      → KeepsReads given actions id reading out new (flushes id (released position old))

-- a read that is taken waits behind the others
abbrev pub AdmitsOneRead : Type 0 → Type 0
AdmitsOneRead S =
    (given : Given) (actions : List Action) (id : ℕ) (reading : List Asked) (old new : CoreView S) (token : Token) (number : ℕ)
    → IsReader given actions id old reading → AdmitsRead token old new
    → IsReader given actions id new (reading ++ record { number = number; token = token; operation = Read; came = length actions } ∷ [])

-- the calls
pub record ReadsAreKept {S : Type 0} (app : Application S) (c : Codec S) : Type 0 where
  pub initializes : OfReadCalls app (Initializes app) (λ old out new d. initialized app old)
  pub ticks : OfReadCalls app (Ticks app) (λ old out new d. ticked app old out new d)
  pub receives : (bytes : List ℕ) → OfReadCalls app (Receives app c bytes) (λ old out new d. received app old out new c bytes d)
  pub writes : OfReadCalls app (Writes app c) (λ old out new d. written app c old out new d)
  pub releases : (position : ℕ) → OfReadReleases app c position
  pub admits_read : AdmitsOneRead S
