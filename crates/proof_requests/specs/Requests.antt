-- Requests of a server's clients beside the actions of the model's servers: what was asked, and which values were proposed for it.
use Rattle.std.specs.Prelude.{ℕ, ◌<◌, ◌≤◌, ◌≡◌, ◌≢◌, ◌⊎◌, Contains, List, [], ◌∷◌, ◌++◌, length, Option, None, Some, slice_get}
use Rattle.std.specs.List.{AllByRecursion}
use Rattle.raft_store.specs.declared.entry.Entry.{Entry}
use Rattle.raft_store.specs.declared.entry.Value.{Value}
use Rattle.raft_store.specs.declared.entry.Value.TheVariants.{Bytes}
use Rattle.raft_node.specs.declared.given.Given.{Given}
use Rattle.raft_answers.specs.declared.request.Operation.{Operation}
use Rattle.raft_answers.specs.declared.request.Operation.TheVariants.{Read, Write}
use Rattle.raft_answers.specs.declared.request.Proposal.{Proposal}
use Rattle.raft_answers.specs.declared.request.Request.{Request}
use Rattle.raft_answers.specs.declared.request.Token.{Token}
use Rattle.raft_answers.specs.Requests.{Open}
use Rattle.proof_servers.specs.Servers.{Action, Crashes, Server, after_actions, new_cluster}
use Rattle.proof_answers.specs.Answers.{Proposed}
use Rattle.proof_packed.specs.Stores.{Application}
use Rattle.raft_core.specs.proof_packed_servers.Servers.{server_packed}
use Rattle.raft_core.specs.raft_packed_server.Represents.{Represents}
use Rattle.raft_core.specs.Views.{CoreView}

-- A request that a server took: its number, of which the server gives no two the same, its token, what it asks for, and how
-- many actions there had been when it came.
pub record Asked : Type 0 where
  pub number : ℕ
  pub token : Token
  pub operation : Operation
  pub came : ℕ

-- A value that was proposed, by the action with this number, and its entry. If a client wrote it, by which request: its server and
-- number. A marker is no request's own.
pub record Placed : Type 0 where
  pub call : ℕ
  pub value : Value
  pub entry : Entry
  pub by : Option (ℕ × ℕ)

-- two lists are of one length, and each element goes with that at its place
abbrev pub AllPairs : {A B : Type 0} → (A → B → Type 0) → List A → List B → Type 0
AllPairs P [] [] = Unit {0}
AllPairs P [] (y ∷ ys) = ⊥
AllPairs P (x ∷ xs) [] = ⊥
AllPairs P (x ∷ xs) (y ∷ ys) = P x y × AllPairs P xs ys

-- later requests have greater numbers
abbrev pub Rises : List Asked → Type 0
Rises [] = Unit {0}
Rises (a ∷ rest) = AllByRecursion (λ b. a.number < b.number) rest × Rises rest

-- a request of this server, with its number, may wait for this value: a write for its own, a read for any
abbrev pub IsOwn : ℕ → ℕ → Operation → Placed → Type 0
IsOwn id number (Write bytes) w = (w.by ≡ Some (id, number)) × (w.value ≡ Bytes bytes)
IsOwn id number Read w = Unit {0}

-- a write of this value
abbrev pub Wrote : Asked → Value → Type 0
Wrote a v = (bytes : List ℕ) × (a.operation ≡ Write bytes) × (v ≡ Bytes bytes)

-- a marker has no bytes
abbrev pub IsMarked : Placed → Type 0
IsMarked w = w.by ≡ None → w.value ≡ Bytes []

-- two values were proposed by two actions, or have two entries
abbrev pub AreApart : Placed → Placed → Type 0
AreApart v w = (v.call ≢ w.call) ⊎ (v.entry.log_id ≢ w.entry.log_id)

abbrev pub AreOnce : List Placed → Type 0
AreOnce [] = Unit {0}
AreOnce (w ∷ rest) = AllByRecursion (AreApart w) rest × AreOnce rest

-- no request has both
abbrev pub AreOfTwo : Placed → Placed → Type 0
AreOfTwo v w = (by : ℕ × ℕ) → v.by ≡ Some by → w.by ≡ Some by → ⊥

-- no two are of one request
abbrev pub AreSingle : List Placed → Type 0
AreSingle [] = Unit {0}
AreSingle (w ∷ rest) = AllByRecursion (AreOfTwo w) rest × AreSingle rest

module _ (given : Given) (actions : List Action) where
  -- a server of the model after these actions
  abbrev pub server_after : ℕ → Server
  server_after id = (after_actions given actions (new_cluster given)).servers id

  module _ (placed : List Placed) where
    -- The values that were proposed are these, each once, and at most one for each request.
    pub record ArePlaced : Type 0 where
      pub each : AllByRecursion (λ w. Proposed given actions w.call w.value w.entry) placed
      pub all : (call : ℕ) (v : Value) (x : Entry) → Proposed given actions call v x
          → (w : Placed) × Contains placed w × (w.call ≡ call) × (w.value ≡ v) × (w.entry ≡ x)
      pub once : AreOnce placed
      pub single : AreSingle placed
      pub markers : AllByRecursion IsMarked placed

    module _ (id : ℕ) where
      -- The request waits for the entry of a value that its server proposed once the request had come; and the server hasn't
      -- crashed since.
      pub record IsAwaited (p : Proposal) (a : Asked) : Type 0 where
        pub token : p.token ≡ a.token
        pub awaits : Placed
        pub there : Contains placed awaits
        pub own : IsOwn id a.number a.operation awaits
        pub only : (w : Placed) → Contains placed w → w.by ≡ Some (id, a.number) → w ≡ awaits
        pub same : p.log_id ≡ awaits.entry.log_id
        pub here : awaits.entry.log_id.leader_id.node_id ≡ id
        pub later : a.came ≤ awaits.call
        pub runs : (number k at : ℕ) → awaits.call < number → slice_get actions number ≢ Some (Crashes id k at)

      -- the request waits to be proposed: all that its server proposed is of earlier ones
      pub record IsWaiting (r : Request) (a : Asked) : Type 0 where
        pub token : r.token ≡ a.token
        pub operation : r.operation ≡ a.operation
        pub came : a.came ≤ length actions
        pub fresh : (w : Placed) (n : ℕ) → Contains placed w → w.by ≡ Some (id, n) → n < a.number

      -- the requests without an answer are those that were asked, in their order
      pub record AreOpen (o : Open) (asked : List Asked) : Type 0 where
        pub proposed : List Asked
        pub waiting : List Asked
        pub all : asked ≡ proposed ++ waiting
        pub awaited : AllPairs IsAwaited o.proposed proposed
        pub waits : AllPairs IsWaiting o.waiting waiting
        pub rises : Rises asked

-- A server stands for the model's server after these actions, packed, and its clients wait for what they asked for.
pub record IsCore {S : Type 0} (app : Application S) (given : Given) (actions : List Action) (placed : List Placed) (id : ℕ) (v : CoreView S)
    (asked : List Asked) : Type 0 where
  pub member : Contains given.ids id
  pub own : v.id ≡ id
  pub given_is : v.server.given ≡ given
  pub stands : Represents app (server_packed app (server_after given actions id)) v.server
  pub open_are : AreOpen given actions placed id v.requests asked
