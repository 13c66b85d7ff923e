-- What clients of a cluster asked and were told, beside the requests of the servers that they stand for (`proof_requests`).
use Rattle.std.specs.Prelude.{ℕ, ◌<◌, ◌≤◌, ◌≡◌, Contains, List, [], ◌∷◌, Option, None, Some, length, map, slice_get}
use Rattle.std.specs.List.{AllByRecursion}
use Rattle.raft_answers.specs.declared.answer.Reply.{Reply}
use Rattle.proof_requests.specs.Clients.{Cores, Exchange, IsOpen}
use Rattle.proof_requests.specs.Requests.{AllPairs, Asked}
use Rattle.raft_cluster.specs.declared.told.Answered.{Answered}
use Rattle.raft_cluster.specs.declared.told.Asked.{Asked as Noted}
use Rattle.raft_cluster.specs.declared.told.Told.{Told}

-- the answers, each with its server
abbrev pub answers_told : {S : Type 0} → Told S → List (ℕ × Reply)
answers_told t = map (λ x. (x.node, x.reply)) t.answered.items

-- the exchanges that have an answer, in order
abbrev pub with_answer : Exchange → List Exchange → List Exchange
with_answer e rest = elim e.answer as (λ _. List Exchange) [ None ↦ rest | Some x ↦ e ∷ rest ]

abbrev pub those_answered : List Exchange → List Exchange
those_answered [] = []
those_answered (e ∷ rest) = with_answer e (those_answered rest)

-- a request as it was noted is this one
pub record IsNoted (noted : Noted) (a : Asked) : Type 0 where
  pub token : noted.token ≡ a.token
  pub operation : noted.operation ≡ a.operation

-- an answer as it was told is that of this exchange
pub record IsToldBy (x : ℕ × Reply) (e : Exchange) : Type 0 where
  pub node : x.0 ≡ e.server
  pub token : x.1.token ≡ e.asked.token
  pub answer : e.answer ≡ Some x.1.answer

-- this request of a server is the one that was noted at some place, before so many answers were told
pub record HasPlace (noted : List Noted) (requests : List Asked) (id : ℕ) (a : Asked) (before : ℕ) : Type 0 where
  pub place : ℕ
  pub row : Noted
  pub there : slice_get noted place ≡ Some row
  pub is : slice_get requests place ≡ Some a
  pub node : row.node ≡ id
  pub after : row.after ≤ before

-- What clients asked and were told is what they asked these servers, and were told by them, after so many actions: each request that
-- is open or over was noted, once, and answers were told in the order in which they left. An answer that was told before a request
-- came had left by then.
pub record AreClients {S : Type 0} (count : ℕ) (s : Cores S) (noted : List Noted) (answers : List (ℕ × Reply)) : Type 0 where
  pub requests : List Asked
  pub each : AllPairs IsNoted noted requests
  pub numbers : (i : ℕ) (row : Noted) (a : Asked) → slice_get noted i ≡ Some row → slice_get requests i ≡ Some a → a.number < s.next row.node
  pub single : (i k : ℕ) (row other : Noted) (a b : Asked) → slice_get noted i ≡ Some row → slice_get requests i ≡ Some a → slice_get noted k ≡ Some other → slice_get requests k ≡ Some b
      → row.node ≡ other.node → a.number ≡ b.number → i ≡ k
  pub opened : (id : ℕ) (a : Asked) → IsOpen s id a → HasPlace noted requests id a (length answers)
  pub over : (e : Exchange) → Contains s.done e → HasPlace noted requests e.server e.asked (length answers)
  pub answered : AllPairs IsToldBy answers (those_answered s.done)
  pub before : (j : ℕ) (e : Exchange) → slice_get (those_answered s.done) j ≡ Some e → HasPlace noted requests e.server e.asked j
  pub early : AllByRecursion (λ e. e.told ≤ count) (those_answered s.done)
  pub within : AllByRecursion (λ (row : Noted). row.after ≤ length answers) noted
  pub since : (i j : ℕ) (row : Noted) (a : Asked) (e : Exchange) → slice_get noted i ≡ Some row → slice_get requests i ≡ Some a → slice_get (those_answered s.done) j ≡ Some e
      → j < row.after → e.told ≤ a.came
