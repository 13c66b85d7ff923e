-- Servers with their clients, beside the model's servers: what was asked and told, at all of them.
use Rattle.std.specs.Prelude.{ℕ, ◌+◌, ◌<◌, ◌≤◌, ◌≡◌, ◌≢◌, ◌⊎◌, Contains, List, [], ◌∷◌, ◌++◌, length, drop, Option, None, Some, nat_eq, slice_get, if◌then◌else◌}
use Rattle.std.specs.List.{AllByRecursion}
use Rattle.raft_frames.specs.declared.header.LogId.{LogId as LogName}
use Rattle.raft_store.specs.declared.entry.Entry.{Entry}
use Rattle.raft_store.specs.declared.entry.Value.{Value}
use Rattle.raft_store.specs.declared.entry.Value.TheVariants.{Bytes}
use Rattle.raft_codec.specs.Codec.{Codec}
use Rattle.raft_node.specs.declared.given.Given.{Given}
use Rattle.raft_node.specs.WellFormed.{IsWellFormed}
use Rattle.raft_answers.specs.declared.answer.Answer.{Answer}
use Rattle.raft_answers.specs.declared.answer.Answer.TheVariants.{Failed, NotLeader, Ok}
use Rattle.raft_answers.specs.declared.answer.Reply.{Reply}
use Rattle.raft_answers.specs.declared.request.Operation.{Operation as Asks}
use Rattle.raft_answers.specs.declared.request.Operation.TheVariants.{Read, Write}
use Rattle.raft_answers.specs.declared.request.Token.{Token}
use Rattle.proof_clients.specs.Objects.{IsLinearizable, Object, Operation, Query, Return, Update}
use Rattle.proof_servers.specs.Servers.{Action, AllMayAct, Crashes, Step, after_actions, new_cluster}
use Rattle.proof_answers.specs.Histories.{IsHistory}
use Rattle.proof_packed.specs.Stores.{Application}
use Rattle.raft_core.specs.proof_packed_servers.Checkpoints.{AreSameDisks}
use Rattle.raft_core.specs.proof_packed_servers.Servers.{PackedDisk, PackedStep, server_packed}
use Rattle.raft_core.specs.raft_packed_wire.declared.record.NamedRecord.{NamedRecord}
use Rattle.raft_core.specs.raft_packed_server.declared.batch.NewLog.{NewLog}
use Rattle.raft_core.specs.raft_packed_server.Laws.{IsCut, OpensCrashed, cut_file}
use Rattle.raft_core.specs.declared.driver.OpenedCore.{OpenedCore}
use Rattle.raft_core.specs.raft_peers.declared.output.Output.{Output}
use Rattle.raft_core.specs.Calls.{Admits, AdmitsRead, Begins, BeginsNewLog, GivesUpLog, Receives, Releases, TakesOverLog, Ticks, Writes}
use Rattle.raft_core.specs.Laws.{read_replies_of, replies_of}
use Rattle.raft_core.specs.Views.{CoreView}
use Rattle.proof_requests.specs.Actions.{AreSteps, Initializes, flushes, initialized, received, released, taking, ticked, written}
use Rattle.proof_requests.specs.Answered.{IsDone, IsTrue}
use Rattle.proof_requests.specs.Frames.{IsSent, frames_of}
use Rattle.proof_requests.specs.Moving.{IsMoving}
use Rattle.proof_requests.specs.Reading.{IsReadDone, StartsBare}
use Rattle.proof_requests.specs.ReadLaws.{IsReader}
use Rattle.proof_requests.specs.Requests.{AllPairs, ArePlaced, AreSingle, Asked, IsCore, IsMarked, Placed, Rises, Wrote, server_after}

-- A request, or a read that needs no entry, that isn't open any more: its server, its answer, none if the server crashed before it answered,
-- and how many actions of the model there were then.
pub record Exchange : Type 0 where
  pub server : ℕ
  pub asked : Asked
  pub answer : Option Answer
  pub told : ℕ

-- The servers that run; of each server its open requests, its open reads that need no entry, and a number above all that it gave to either;
-- those that aren't open; and the frames that have left.
pub record Cores (S : Type 0) : Type 0 where
  pub cores : ℕ → Option (CoreView S)
  pub open_at : ℕ → List Asked
  pub reads_at : ℕ → List Asked
  pub next : ℕ → ℕ
  pub done : List Exchange
  pub sent : List (List ℕ)

abbrev pub no_cores : {S : Type 0} → Cores S
no_cores = record { cores = λ id. None; open_at = λ id. []; reads_at = λ id. []; next = λ id. 0; done = []; sent = [] }

-- one value in another's place
abbrev pub with_one : {A : Type 0} → ℕ → A → (ℕ → A) → ℕ → A
with_one id x f other = if nat_eq other id then x else f other

-- the first of these requests got these replies
abbrev pub answered_with : ℕ → ℕ → List Asked → List Reply → List Exchange
answered_with id told [] replies = []
answered_with id told asked [] = []
answered_with id told (a ∷ asked) (r ∷ replies) = record { server = id; asked = a; answer = Some r.answer; told = told } ∷ answered_with id told asked replies

-- replies answer the first of these requests: each the one at its place, with its token
abbrev pub AnswerFirst : List Reply → List Asked → Type 0
AnswerFirst [] asked = Unit {0}
AnswerFirst (r ∷ replies) [] = ⊥
AnswerFirst (r ∷ replies) (a ∷ asked) = (r.token ≡ a.token) × AnswerFirst replies asked

-- these got none
abbrev pub unanswered : ℕ → ℕ → List Asked → List Exchange
unanswered id told [] = []
unanswered id told (a ∷ asked) = record { server = id; asked = a; answer = None; told = told } ∷ unanswered id told asked

-- after a call of a server from which this left, by when there were so many actions: the first requests are answered, and the first reads
abbrev pub after_call : {S : Type 0} → ℕ → List (Output S) → CoreView S → ℕ → Cores S → Cores S
after_call id out new told s = record s {
  cores = with_one id (Some new) s.cores;
  open_at = with_one id (drop (length (replies_of out)) (s.open_at id)) s.open_at;
  reads_at = with_one id (drop (length (read_replies_of out)) (s.reads_at id)) s.reads_at;
  done = s.done ++ (answered_with id told (s.open_at id) (replies_of out) ++ answered_with id told (s.reads_at id) (read_replies_of out));
  sent = s.sent ++ frames_of out;
}

-- after a request was taken
abbrev pub after_request : {S : Type 0} → ℕ → Token → Asks → CoreView S → ℕ → Cores S → Cores S
after_request id token operation new came s = record s {
  cores = with_one id (Some new) s.cores;
  open_at = with_one id (s.open_at id ++ record { number = s.next id; token = token; operation = operation; came = came } ∷ []) s.open_at;
  next = with_one id (s.next id + 1) s.next;
}

-- after a read was taken that needs no entry
abbrev pub after_read : {S : Type 0} → ℕ → Token → CoreView S → ℕ → Cores S → Cores S
after_read id token new came s = record s {
  cores = with_one id (Some new) s.cores;
  reads_at = with_one id (s.reads_at id ++ record { number = s.next id; token = token; operation = Read; came = came } ∷ []) s.reads_at;
  next = with_one id (s.next id + 1) s.next;
}

-- after a crash, and a start; or after a server has stopped for good
abbrev pub after_end : {S : Type 0} → ℕ → Option (CoreView S) → ℕ → Cores S → Cores S
after_end id new told s = record s {
  cores = with_one id new s.cores;
  open_at = with_one id [] s.open_at;
  reads_at = with_one id [] s.reads_at;
  done = s.done ++ (unanswered id told (s.open_at id) ++ unanswered id told (s.reads_at id));
}

-- it has no answer yet: a request, or a read that needs no entry
abbrev pub IsOpen : {S : Type 0} → Cores S → ℕ → Asked → Type 0
IsOpen s id a = Contains (s.open_at id) a ⊎ Contains (s.reads_at id) a

-- the request wasn't done, and never will be
abbrev pub IsNo : Answer → Type 0
IsNo Failed = Unit {0}
IsNo (NotLeader leader) = Unit {0}
IsNo _ = ⊥

-- two requests
abbrev pub AreTwoRequests : Exchange → Exchange → Type 0
AreTwoRequests e f = (e.server ≢ f.server) ⊎ (e.asked.number ≢ f.asked.number)

-- no request is over twice
abbrev pub AreOver : List Exchange → Type 0
AreOver [] = Unit {0}
AreOver (e ∷ rest) = AllByRecursion (AreTwoRequests e) rest × AreOver rest

-- A request of this server, with this number, is open or over: a write of this value, which came before an action.
pub record WasWritten {S : Type 0} (s : Cores S) (id n call : ℕ) (v : Value) : Type 0 where
  pub asked : Asked
  pub number_is : asked.number ≡ n
  pub wrote : Wrote asked v
  pub came : asked.came ≤ call
  pub there : Contains (s.open_at id) asked ⊎ ((e : Exchange) × Contains s.done e × (e.server ≡ id) × (e.asked ≡ asked))

module _ (given : Given) (actions : List Action) (placed : List Placed) where
  -- its server had told of the entry for which it waited
  abbrev pub WasDone : Exchange → ℕ → Type 0
  WasDone e index = (d : IsDone given actions placed e.server e.asked index) × (d.flush < e.told)

  -- or it is a read that was done without one
  abbrev pub WasReadDone : Exchange → ℕ → Type 0
  WasReadDone e index = (e.asked.operation ≡ Read) × (d : IsReadDone given actions e.server e.asked index) × (d.upto < e.told)

  -- its answer is true, and what it tells of had left before
  abbrev pub WasTold : Exchange → Answer → Type 0
  WasTold e (Ok index) = WasDone e index ⊎ WasReadDone e index
  WasTold e x = IsTrue given actions placed e.server e.asked x

  -- one that isn't open any more
  pub record IsOver {S : Type 0} (s : Cores S) (e : Exchange) : Type 0 where
    pub below : e.asked.number < s.next e.server
    pub apart : (a : Asked) → IsOpen s e.server a → e.asked.number ≢ a.number
    pub early : e.told ≤ length actions
    pub was_told : (x : Answer) → e.answer ≡ Some x → WasTold e x

  module _ {S T R : Type 0} (m : Object T R) (s : Cores S) where
    -- An update is of a value that was proposed: one that a client wrote, who wasn't told that it wasn't done; or a marker.
    pub record IsWritten (o : Operation R) (of : Placed) : Type 0 where
      pub there : Contains placed of
      pub written : (id n : ℕ) → of.by ≡ Some (id, n) → WasWritten s id n of.call of.value
      pub marker : IsMarked of
      pub call : o.call ≡ of.call
      pub ask : o.ask ≡ Update of.value of.entry
      pub may_be : (e : Exchange) (x : Answer) → Contains s.done e → e.answer ≡ Some x → of.by ≡ Some (e.server, e.asked.number) → IsNo x → ⊥

    -- a write that was answered by Ok is an update of its own value, which returned then, or before: with what the object answers
    -- after all below its index
    pub record HasWrite (updates : List (Operation R)) (values : List Placed) (e : Exchange) (bytes : List ℕ) (index : ℕ) : Type 0 where
      pub place : ℕ
      pub operation : Operation R
      pub there : slice_get updates place ≡ Some operation
      pub of : Placed
      pub value : slice_get values place ≡ Some of
      pub by : of.by ≡ Some (e.server, e.asked.number)
      pub entry : Entry
      pub ask : operation.ask ≡ Update (Bytes bytes) entry
      pub index_is : entry.log_id.index ≡ index
      pub later : e.asked.came ≤ operation.call
      pub how : Return R
      pub returned : operation.returned ≡ Some how
      pub early : how.events < e.told

    -- so did a read, by its entry or without one, with what the object answers to the query with its name after the entry at the index
    pub record HasRead (name : Exchange → ℕ) (queries : List (Operation R)) (e : Exchange) (index : ℕ) : Type 0 where
      pub operation : Operation R
      pub there : Contains queries operation
      pub call : operation.call ≡ e.asked.came
      pub ask : operation.ask ≡ Query (name e)
      pub how : Return R
      pub returned : operation.returned ≡ Some how
      pub taken : how.taken ≡ index + 1
      pub early : how.events < e.told

    -- What clients asked and were told is a history of clients of the model's servers, with these values of its updates; what a read
    -- asks for is its name.
    pub record IsToldHistory (name : Exchange → ℕ) (updates queries : List (Operation R)) : Type 0 where
      pub history : IsHistory m given actions updates queries
      pub values : List Placed
      pub written : AllPairs IsWritten updates values
      pub single : AreSingle values
      pub writes : (e : Exchange) (bytes : List ℕ) (index : ℕ) → Contains s.done e → e.asked.operation ≡ Write bytes → e.answer ≡ Some (Ok index) → HasWrite updates values e bytes index
      pub reads : (e : Exchange) (index : ℕ) → Contains s.done e → e.asked.operation ≡ Read → e.answer ≡ Some (Ok index) → HasRead name queries e index

-- The servers and their clients are beside the model after these actions, and these values.
pub record AreBeside {S : Type 0} (app : Application S) (c : Codec S) (given : Given) (actions : List Action) (placed : List Placed)
    (s : Cores S) : Type 0 where
  pub may : AllMayAct given actions (new_cluster given)
  pub placed_are : ArePlaced given actions placed
  pub running : (id : ℕ) (v : CoreView S) → s.cores id ≡ Some v → IsCore app given actions placed id v (s.open_at id)
  pub reading : (id : ℕ) (v : CoreView S) → s.cores id ≡ Some v → IsReader given actions id v (s.reads_at id)
  pub bare : (id : ℕ) → StartsBare actions id
  pub numbers : (id : ℕ) (a : Asked) → IsOpen s id a → a.number < s.next id
  pub rises : (id : ℕ) → Rises (s.open_at id)
  pub reads_rise : (id : ℕ) → Rises (s.reads_at id)
  pub are_reads : (id : ℕ) (a : Asked) → Contains (s.reads_at id) a → a.operation ≡ Read
  pub apart : (id : ℕ) (a b : Asked) → Contains (s.open_at id) a → Contains (s.reads_at id) b → a.number ≢ b.number
  pub values : (w : Placed) (id n : ℕ) → Contains placed w → w.by ≡ Some (id, n) → WasWritten s id n w.call w.value
  pub over : AllByRecursion (IsOver given actions placed s) s.done
  pub once : AreOver s.done
  pub frames : AllByRecursion (IsSent app c (after_actions given actions (new_cluster given)).released.bag) s.sent
  pub moving : (id : ℕ) (v : CoreView S) → s.cores id ≡ Some v → IsMoving app c (after_actions given actions (new_cluster given)).released.bag v

-- From no requests on, whatever servers do, they and their clients stay beside the model.

module _ {S : Type 0} (app : Application S) (c : Codec S) where
  -- they are so after a call of a server, by these actions; and its replies answer the first of its open requests, and of its open reads
  pub record StayBy (given : Given) (actions : List Action) (placed : List Placed) (s : Cores S) (id : ℕ) (out : List (Output S)) (new : CoreView S)
      (took : List Action) : Type 0 where
    pub more : List Placed
    pub beside : AreBeside app c given (actions ++ took) (placed ++ more) (after_call id out new (length (actions ++ took)) s)
    pub first : AnswerFirst (replies_of out) (s.open_at id)
    pub first_reads : AnswerFirst (read_replies_of out) (s.reads_at id)

  -- they are so by steps of the model's server which are these, packed
  abbrev pub StayBySteps : Given → List Action → List Placed → Cores S → ℕ → List (Output S) → CoreView S → List (PackedStep S) → Type 0
  StayBySteps given actions placed s id out new taken =
      (steps : List Step) × AreSteps app steps taken × StayBy given actions placed s id out new (taking id steps)

  -- a call of this kind, at a server that runs
  abbrev pub StaysBy : (Does : CoreView S → List (Output S) → CoreView S → Type 0)
      → ((old : CoreView S) (out : List (Output S)) (new : CoreView S) → Does old out new → List (PackedStep S)) → Type 0
  StaysBy Does taken =
      (given : Given) → IsWellFormed given → (actions : List Action) (placed : List Placed) (s : Cores S) → AreBeside app c given actions placed s
      → (id : ℕ) (old new : CoreView S) (out : List (Output S)) → s.cores id ≡ Some old → (d : Does old out new)
      → StayBySteps given actions placed s id out new (taken old out new d)

  -- a frame that is received is one that has left a server: late, again, or never; or no packet, whoever sent it
  abbrev pub StaysByFrame : Type 0
  StaysByFrame =
      (given : Given) → IsWellFormed given → (actions : List Action) (placed : List Placed) (s : Cores S) → AreBeside app c given actions placed s
      → (id : ℕ) (old new : CoreView S) (out : List (Output S)) (bytes : List ℕ) → s.cores id ≡ Some old
      → Contains s.sent bytes ⊎ (slice_get bytes 0 ≢ Some 0) → (d : Receives app c bytes old out new)
      → StayBySteps given actions placed s id out new (received app old out new c bytes d)

  -- records came on disk, up to a position: so many steps leave
  abbrev pub StaysByRelease : Type 0
  StaysByRelease =
      (position : ℕ) (given : Given) → IsWellFormed given → (actions : List Action) (placed : List Placed) (s : Cores S)
      → AreBeside app c given actions placed s
      → (id : ℕ) (old new : CoreView S) (out : List (Output S)) → s.cores id ≡ Some old → Releases app c position old out new
      → StayBy given actions placed s id out new (flushes id (released position old))

  abbrev pub StaysByRequest : Type 0
  StaysByRequest =
      (given : Given) (actions : List Action) (placed : List Placed) (s : Cores S) → AreBeside app c given actions placed s
      → (id : ℕ) (old new : CoreView S) (token : Token) (operation : Asks) → s.cores id ≡ Some old → Admits token operation old new
      → AreBeside app c given actions placed (after_request id token operation new (length actions) s)

  -- a read that needs no entry
  abbrev pub StaysByRead : Type 0
  StaysByRead =
      (given : Given) (actions : List Action) (placed : List Placed) (s : Cores S) → AreBeside app c given actions placed s
      → (id : ℕ) (old new : CoreView S) (token : Token) → s.cores id ≡ Some old → AdmitsRead token old new
      → AreBeside app c given actions placed (after_read id token new (length actions) s)

  -- A start on what a crash left of the server's file, which is empty at first: the model's server crashes. What no start reads may differ
  -- on disk, as it does once a new log has the old one's place.
  abbrev pub StaysByStart : Type 0
  StaysByStart =
      (given : Given) → IsWellFormed given → (actions : List Action) (placed : List Placed) (s : Cores S) → AreBeside app c given actions placed s
      → (log : LogName) (k : ℕ) (disk : PackedDisk S) (batches : List (List (NamedRecord S))) (next : List (NamedRecord S)) (n : ℕ) (o : OpenedCore S)
      → Contains given.ids log.node
      → let server = server_packed app (server_after given actions log.node) in
      AreSameDisks app server.disk disk
      → IsCut app c log k (record server { disk = disk }) batches next n
      → Begins app c given log (cut_file app c log batches next n) o
      → (survive : ℕ) × AreBeside app c given (actions ++ Crashes log.node survive 0 ∷ []) placed
      (after_end log.node (Some o.core) (length actions + 1) s)

  -- as many steps have come on disk as a start has read there (`raft_packed_server`)
  abbrev pub StaysByReading : Type 0
  StaysByReading =
      (given : Given) → IsWellFormed given → (actions : List Action) (placed : List Placed) (s : Cores S) → AreBeside app c given actions placed s
      → (log : LogName) (k : ℕ) (disk : PackedDisk S) (bytes : List ℕ) (o : OpenedCore S) → Contains given.ids log.node
      → let server = server_packed app (server_after given actions log.node) in
      AreSameDisks app server.disk disk → Begins app c given log bytes o
      → (opens : OpensCrashed app c given log k 0 (record server { disk = disk }) bytes (record { server = o.core.server; end = o.end }))
      → AreBeside app c given (actions ++ Crashes log.node opens.survive 0 ∷ []) placed
      (after_end log.node (Some o.core) (length actions + 1) s)

  -- a call that is about a server's log alone: nothing leaves, and the model's server does nothing
  abbrev pub StaysByLog : (Does : CoreView S → CoreView S → Type 0) → Type 0
  StaysByLog Does =
      (given : Given) (actions : List Action) (placed : List Placed) (s : Cores S) → AreBeside app c given actions placed s
      → (id : ℕ) (old new : CoreView S) → s.cores id ≡ Some old → Does old new
      → AreBeside app c given actions placed (record s { cores = with_one id (Some new) s.cores })

  pub record StayBeside : Type 0 where
    pub first : (given : Given) → AreBeside app c given [] [] no_cores
    pub starts : StaysByStart
    pub reads : StaysByReading
    pub stops : (given : Given) (actions : List Action) (placed : List Placed) (s : Cores S) → AreBeside app c given actions placed s → (id : ℕ)
        → AreBeside app c given actions placed (after_end id None (length actions) s)
    pub requests : StaysByRequest
    pub rule_reads : StaysByRead
    pub initializes : StaysBy (Initializes app) (λ old out new d. initialized app old)
    pub ticks : StaysBy (Ticks app) (λ old out new d. ticked app old out new d)
    pub receives : StaysByFrame
    pub writes : StaysBy (Writes app c) (λ old out new d. written app c old out new d)
    pub releases : StaysByRelease
    pub new_logs : (log : LogName) (w : NewLog) → StaysByLog (λ old new. BeginsNewLog c log old w new)
    pub take_overs : (end : Option ℕ) → StaysByLog (λ old new. TakesOverLog old end new)
    pub given_up : StaysByLog (λ old new. GivesUpLog old new)

-- names of requests that are over: no two have one
abbrev pub AreNames : List Exchange → (Exchange → ℕ) → Type 0
AreNames done name = (e f : Exchange) → Contains done e → Contains done f → name e ≡ name f → (e.server ≡ f.server) × (e.asked.number ≡ f.asked.number)

-- So what clients asked and were told is a history of clients of the model's servers, and linearizable, whatever the object and
-- whatever its reads ask for.
abbrev pub CoresSeeOne : {S T R : Type 0} → Application S → Codec S → Object T R → Type 0
CoresSeeOne {S} {T} {R} app c m =
    (given : Given) → IsWellFormed given → (actions : List Action) (placed : List Placed) (s : Cores S) → AreBeside app c given actions placed s
    → (name : Exchange → ℕ) → AreNames s.done name
    → (updates : List (Operation R)) × (queries : List (Operation R)) × IsToldHistory given actions placed m s name updates queries
    × IsLinearizable m (updates ++ queries)
