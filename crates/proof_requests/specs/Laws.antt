-- What is promised of each call: requests stay beside the model, and what leaves is true.
use Rattle.std.specs.Prelude.{ℕ, ◌<◌, ◌≤◌, ◌≡◌, Contains, List, [], ◌∷◌, ◌++◌, length, Some}
use Rattle.std.specs.List.{AllByRecursion}
use Rattle.raft_codec.specs.Codec.{Codec}
use Rattle.raft_node.specs.declared.given.Given.{Given}
use Rattle.raft_node.specs.WellFormed.{IsWellFormed}
use Rattle.proof_servers.specs.Servers.{Action, AllMayAct, Crashes, Flushes, Step, Takes, after_actions, new_cluster}
use Rattle.proof_packed.specs.Stores.{Application}
use Rattle.raft_core.specs.proof_packed_servers.Checkpoints.{AreSameDisks}
use Rattle.raft_core.specs.proof_packed_servers.Servers.{PackedDisk, PackedStep, packed_crashed, server_packed}
use Rattle.raft_answers.specs.declared.request.Operation.{Operation}
use Rattle.raft_answers.specs.declared.request.Token.{Token}
use Rattle.raft_answers.specs.Requests.{no_requests}
use Rattle.raft_core.specs.raft_packed_server.Represents.{Represents}
use Rattle.raft_core.specs.raft_peers.declared.output.Output.{Output}
use Rattle.raft_core.specs.Calls.{Admits, Receives, Releases, Ticks, Writes}
use Rattle.raft_core.specs.Laws.{replies_of}
use Rattle.raft_core.specs.Views.{CoreView}
use Rattle.proof_requests.specs.Actions.{AreSteps, Initializes, flushes, initialized, received, released, taking, ticked, written}
use Rattle.proof_requests.specs.Answered.{AreAnswered}
use Rattle.proof_requests.specs.Frames.{IsSent, frames_of}
use Rattle.proof_requests.specs.Moving.{IsMoving}
use Rattle.proof_requests.specs.Requests.{ArePlaced, Asked, IsCore, Placed, Wrote, server_after}

-- a step or a flush of this server
abbrev pub IsOwnAction : ℕ → Action → Type 0
IsOwnAction id (Takes other step) = other ≡ id
IsOwnAction id (Flushes other) = other ≡ id
IsOwnAction id (Crashes other k at) = ⊥

module _ {S : Type 0} (app : Application S) (c : Codec S) where
  -- What a call does beside the model, by these actions. Its server takes steps and flushes there, and values are proposed for
  -- requests that were asked. The first of those that were open get the replies that leave, which are true, and the others stay.
  pub record Keeps (given : Given) (actions : List Action) (placed : List Placed) (id : ℕ) (asked : List Asked) (out : List (Output S))
      (new : CoreView S)
      (took : List Action) : Type 0 where
    pub own : AllByRecursion (IsOwnAction id) took
    pub may : AllMayAct given (actions ++ took) (new_cluster given)
    pub more : List Placed
    pub of_asked : (w : Placed) (by : ℕ × ℕ) → Contains more w → w.by ≡ Some by
        → (a : Asked) × Contains asked a × (by ≡ (id, a.number)) × Wrote a w.value × (a.came ≤ w.call)
    pub placed_are : ArePlaced given (actions ++ took) (placed ++ more)
    pub left : List Asked
    pub answered : AreAnswered given (actions ++ took) (placed ++ more) id asked (replies_of out) left
    pub core : IsCore app given (actions ++ took) (placed ++ more) id new left
    pub frames : AllByRecursion (IsSent app c (after_actions given (actions ++ took) (new_cluster given)).released.bag) (frames_of out)

  -- Each call of this kind does so, by steps of the model's server which are the call's, packed: at any servers of one first membership and
  -- the same settings.
  abbrev pub OfCalls : (Does : Given → List Action → CoreView S → List (Output S) → CoreView S → Type 0)
      → ((given : Given) (actions : List Action) (old : CoreView S) (out : List (Output S)) (new : CoreView S) → Does given actions old out new
      → List (PackedStep S)) → Type 0
  OfCalls Does taken =
      (given : Given) → IsWellFormed given → (actions : List Action) → AllMayAct given actions (new_cluster given)
      → (placed : List Placed) → ArePlaced given actions placed
      → (id : ℕ) (asked : List Asked) (old new : CoreView S) (out : List (Output S)) → IsCore app given actions placed id old asked
      → (d : Does given actions old out new)
      → (steps : List Step) × AreSteps app steps (taken given actions old out new d) × Keeps given actions placed id asked out new (taking id steps)

  -- Records came on disk, up to this position, at a server that encodes and moves only what has left a server: so many steps leave at the
  -- model's server too.
  abbrev pub OfReleases : ℕ → Type 0
  OfReleases position =
      (given : Given) → IsWellFormed given → (actions : List Action) → AllMayAct given actions (new_cluster given)
      → (placed : List Placed) → ArePlaced given actions placed
      → (id : ℕ) (asked : List Asked) (old new : CoreView S) (out : List (Output S)) → IsCore app given actions placed id old asked
      → IsMoving app c (after_actions given actions (new_cluster given)).released.bag old
      → Releases app c position old out new → Keeps given actions placed id asked out new (flushes id (released position old))

  -- the bytes of a frame are received that has left a server, as what has come of a snapshot has
  abbrev pub ReceivesSent : Given → List Action → List ℕ → CoreView S → List (Output S) → CoreView S → Type 0
  ReceivesSent given actions bytes old out new =
      let bag = (after_actions given actions (new_cluster given)).released.bag in
      (IsSent app c bag bytes × IsMoving app c bag old) × Receives app c bytes old out new

module _ {S : Type 0} (app : Application S) where
  -- a request that is taken waits behind the others, if its number is above all that the server gave
  abbrev pub AdmitsOne : Type 0
  AdmitsOne =
      (given : Given) (actions : List Action) (placed : List Placed) (id : ℕ) (asked : List Asked) (old new : CoreView S) (token : Token)
      (operation : Operation) (number : ℕ) → IsCore app given actions placed id old asked → Admits token operation old new
      → ((a : Asked) → Contains asked a → a.number < number)
      → ((w : Placed) (n : ℕ) → Contains placed w → w.by ≡ Some (id, n) → n < number)
      → IsCore app given actions placed id new
      (asked ++ record { number = number; token = token; operation = operation; came = length actions } ∷ [])

  -- One that starts after a crash has no requests: those that were open before get no answer. (`opens_after_a_crash` says what it
  -- stands for, on a disk that may differ in what no start reads.)
  abbrev pub OpensWithNone : Type 0
  OpensWithNone =
      (given : Given) → IsWellFormed given → (actions : List Action) → AllMayAct given actions (new_cluster given)
      → (placed : List Placed) → ArePlaced given actions placed
      → (id k at : ℕ) → Contains given.ids id → (new : CoreView S) → new.id ≡ id → new.server.given ≡ given → new.requests ≡ no_requests
      → (disk : PackedDisk S)
      → let server = server_packed app (server_after given actions id) in
      AreSameDisks app server.disk disk → Represents app (packed_crashed app given id k at (record server { disk = disk })) new.server
      → AllMayAct given (actions ++ Crashes id k at ∷ []) (new_cluster given) × ArePlaced given (actions ++ Crashes id k at ∷ []) placed
      × IsCore app given (actions ++ Crashes id k at ∷ []) placed id new []

-- the calls
pub record RequestsAreKept {S : Type 0} (app : Application S) (c : Codec S) : Type 0 where
  pub initializes : OfCalls app c (λ given actions old out new. Initializes app old out new) (λ given actions old out new d. initialized app old)
  pub ticks : OfCalls app c (λ given actions old out new. Ticks app old out new) (λ given actions old out new d. ticked app old out new d)
  pub receives : (bytes : List ℕ) → OfCalls app c (λ given actions old out new. ReceivesSent app c given actions bytes old out new)
      (λ given actions old out new d. received app old out new c bytes d.1)
  pub writes : OfCalls app c (λ given actions old out new. Writes app c old out new) (λ given actions old out new d. written app c old out new d)
  pub releases : (position : ℕ) → OfReleases app c position
  pub admits : AdmitsOne app
  pub opens : OpensWithNone app
