-- What clients asked of a cluster and were told is a history of one object, and linearizable (Herlihy and Wing, Linearizability: A
-- Correctness Condition for Concurrent Objects, 1990). A is the servers' state machine's state: none of it is read here.
use Rattle.std.specs.Prelude.{ℕ, ◌+◌, ◌<◌, ◌≤◌, ◌≡◌, Contains, List, [], ◌++◌, Option, None, Some, slice_get}
use Rattle.raft_answers.specs.declared.answer.Answer.TheVariants.{Ok}
use Rattle.raft_answers.specs.declared.request.Operation.TheVariants.{Read, Write}
use Rattle.raft_store.specs.declared.entry.Entry.{Entry}
use Rattle.raft_store.specs.declared.entry.Payload.TheVariants as payload
use Rattle.raft_store.specs.declared.entry.Value.TheVariants.{Bytes}
use Rattle.proof_clients.specs.Objects.{IsLinearizable, Object, Operation, Query, Return, Update}
use Rattle.proof_requests.specs.Clients.{IsNo}
use Rattle.proof_requests.specs.Requests.{AllPairs}
use Rattle.raft_cluster.specs.declared.told.Answered.{Answered}
use Rattle.raft_cluster.specs.declared.told.Asked.{Asked}
use Rattle.raft_cluster.specs.declared.told.Told.{Told}

-- the answer with place j is one to the request with place i: it is by that request's server, has its token, and left after it came
pub record IsAnswerTo {A : Type 0} (told : Told A) (i j : ℕ) (x : Answered) : Type 0 where
  pub request : Asked
  pub there : slice_get told.asked.items i ≡ Some request
  pub node : request.node ≡ x.node
  pub token : request.token ≡ x.reply.token
  pub after : request.after ≤ j

-- Moments of a run: when the request with each place came, and the answer with each place left; and of each answer the place of its
-- request, which has no other. What was told before a request came had left by then.
pub record Moments {A : Type 0} (told : Told A) : Type 0 where
  pub came : ℕ → ℕ
  pub left : ℕ → ℕ
  pub of : ℕ → ℕ
  pub answers : (j : ℕ) (x : Answered) → slice_get told.answered.items j ≡ Some x → IsAnswerTo told (of j) j x
  pub once : (j k : ℕ) (x y : Answered) → slice_get told.answered.items j ≡ Some x → slice_get told.answered.items k ≡ Some y → of j ≡ of k → j ≡ k
  pub before : (i j : ℕ) (a : Asked) → slice_get told.asked.items i ≡ Some a → j < a.after → left j ≤ came i

-- a write of these bytes; a read
abbrev pub IsWriteOf : List ℕ → Asked → Type 0
IsWriteOf bytes a = a.operation ≡ Write bytes

abbrev pub IsRead : Asked → Type 0
IsRead a = a.operation ≡ Read

module _ {A : Type 0} (told : Told A) (t : Moments told) where
  -- the answer with place j acknowledges a write of these bytes, or a read, with this index
  pub record Acknowledges (j : ℕ) (operation : Asked → Type 0) (index : ℕ) : Type 0 where
    pub answered : Answered
    pub there : slice_get told.answered.items j ≡ Some answered
    pub asked : Asked
    pub request : slice_get told.asked.items (t.of j) ≡ Some asked
    pub asks : operation asked
    pub ok : answered.reply.answer ≡ Ok index

  module _ {R : Type 0} where
    -- an update is the write of the request with place i, invoked once that had come; it wasn't refused
    pub record IsWrittenBy (o : Operation R) (i : ℕ) : Type 0 where
      pub asked : Asked
      pub there : slice_get told.asked.items i ≡ Some asked
      pub bytes : List ℕ
      pub writes : IsWriteOf bytes asked
      pub entry : Entry
      pub ask : o.ask ≡ Update (Bytes bytes) entry
      pub later : t.came i ≤ o.call
      pub may_be : (j : ℕ) (x : Answered) → slice_get told.answered.items j ≡ Some x → t.of j ≡ i → IsNo x.reply.answer → ⊥

    -- of a request, or a marker: a value without bytes, which a server proposes by itself
    abbrev pub IsOf : Operation R → Option ℕ → Type 0
    IsOf o None = (entry : Entry) × (o.ask ≡ Update (Bytes []) entry)
    IsOf o (Some i) = IsWrittenBy o i

    -- an acknowledged write returned before its answer left, with the entry at that index
    pub record HasWrite (updates : List (Operation R)) (writers : List (Option ℕ)) (j : ℕ) (bytes : List ℕ) (index : ℕ) : Type 0 where
      pub place : ℕ
      pub operation : Operation R
      pub there : slice_get updates place ≡ Some operation
      pub writer : slice_get writers place ≡ Some (Some (t.of j))
      pub entry : Entry
      pub ask : operation.ask ≡ Update (Bytes bytes) entry
      pub index_is : entry.log_id.index ≡ index
      pub how : Return R
      pub returned : operation.returned ≡ Some how
      pub early : how.events < t.left j

    -- An acknowledged read was invoked when it came, and returned before its answer left, from the entries up to that index. Its query is
    -- named by its request: what that asks the object, the object says.
    pub record HasRead (queries : List (Operation R)) (j index : ℕ) : Type 0 where
      pub operation : Operation R
      pub there : Contains queries operation
      pub call : operation.call ≡ t.came (t.of j)
      pub ask : operation.ask ≡ Query (t.of j)
      pub how : Return R
      pub returned : operation.returned ≡ Some how
      pub taken : how.taken ≡ index + 1
      pub early : how.events < t.left j

-- Clients see one object: what they were told is what it answers, in an order that respects real time. Each update is of a request,
-- and no two of one, or is a marker; each acknowledged write is the update of its request, and each acknowledged read a query.
pub record SeesOne {A S R : Type 0} (m : Object S R) (told : Told A) : Type 0 where
  pub moments : Moments told
  pub updates : List (Operation R)
  pub writers : List (Option ℕ)
  pub queries : List (Operation R)
  pub each : AllPairs (IsOf told moments) updates writers
  pub once : (k l i : ℕ) → slice_get writers k ≡ Some (Some i) → slice_get writers l ≡ Some (Some i) → k ≡ l
  pub writes : (j : ℕ) (bytes : List ℕ) (index : ℕ) → Acknowledges told moments j (IsWriteOf bytes) index → HasWrite told moments updates writers j bytes index
  pub reads : (j index : ℕ) → Acknowledges told moments j IsRead index → HasRead told moments queries j index
  pub linearizable : IsLinearizable m (updates ++ queries)

-- Acknowledged writes

-- an entry with these bytes is at this index
pub record HasBytesAt (bytes : List ℕ) (index : ℕ) (entries : List Entry) : Type 0 where
  pub entry : Entry
  pub among : Contains entries entry
  pub at : entry.log_id.index ≡ index
  pub value : entry.payload ≡ payload.Value (Bytes bytes)

-- each acknowledged write was executed: clients were told of an entry with its bytes, at the index that its answer names
pub record KeepsWrites {A : Type 0} (entries : List Entry) (told : Told A) : Type 0 where
  pub moments : Moments told
  pub writes : (j : ℕ) (bytes : List ℕ) (index : ℕ) → Acknowledges told moments j (IsWriteOf bytes) index → HasBytesAt bytes index entries
