-- What client sessions give: at most one attempt of a request takes effect, so that a history of attempts is one of requests (Ongaro, Consensus:
-- Bridging Theory and Practice, 6.3; Herlihy and Wing, Linearizability: A Correctness Condition for Concurrent Objects, 1990).
use Rattle.std.specs.Prelude.{ℕ, ◌<◌, ◌≤◌, ◌≡◌, ◌≢◌, ◌⊎◌, ◌↔◌, Contains, IfSome, length, List, ◌∷◌, ◌++◌, map, Some, None}
use Rattle.std.specs.List.{AllByRecursion, fold}
use Rattle.raft_machine.specs.declared.command.Query as queries
use Rattle.raft_machine.specs.declared.machine.Outcome.TheVariants.{Outdated}
use Rattle.raft_machine.specs.declared.machine.Session.{Session}
use Rattle.proof_clients.specs.Objects.{Ask, IsLinearizable, Object, Operation, Return, after, answer}
use Rattle.proof_sessions.specs.Service.{Answer, keys, service, session_of}

-- the operations' sessions are among these
abbrev pub AreOf : List ℕ → List Ask → Type 0
AreOf ids asks = AllByRecursion (λ a. IfSome (session_of a) (λ s. Contains ids s.id)) asks

-- ---- a sequence of operations

-- the state after operations, one after the other
abbrev pub after_all : {S R : Type 0} → Object S R → List Ask → S
after_all m asks = fold (after m) m.first asks

-- one of these operations is a later request of the same session
abbrev pub HasLater : Session → List Ask → Type 0
HasLater s asks = (a : Ask) × (t : Session) × Contains asks a × (session_of a ≡ Some t) × (t.id ≡ s.id) × (s.number < t.number)

-- A request that is repeated, when no session is forgotten: each attempt but the first changes nothing, and is answered as the first was, or
-- is outdated by a later request of its session.
abbrev pub RepeatsChangeNothing : Type 0
RepeatsChangeNothing =
    (sessions : ℕ) (query_of : ℕ → queries.Query) (ids : List ℕ) (before between : List Ask) (first again : Ask) (s : Session)
    → length ids ≤ sessions → AreOf ids (before ++ first ∷ between) → session_of first ≡ Some s → session_of again ≡ Some s
    → let m = service sessions query_of in
    let now = after_all m (before ++ first ∷ between) in
    (after m now again ≡ now)
    × ((answer m now again ≡ answer m (after_all m before) first) ⊎ ((answer m now again ≡ Some Outdated) × HasLater s (before ++ first ∷ between)))

-- ---- a history of requests

-- an answer ends a request, unless it tells that a later one was run
abbrev pub Ends : Answer → Type 0
Ends r = r ≢ Some Outdated

module _ (ops : List (Operation Answer)) where
  -- an attempt of a session's request
  abbrev pub IsAttempt : Session → Operation Answer → Type 0
  IsAttempt s o = Contains ops o × (session_of o.ask ≡ Some s)

  -- The attempts of a request as one operation: it asks what one of them asks, is called when the first of them is, and returns as one of them
  -- did that was answered, if one was.
  pub record IsRequest (s : Session) (o : Operation Answer) : Type 0 where
    pub one : Operation Answer
    pub attempt : IsAttempt s one
    pub ask : o.ask ≡ one.ask
    pub first : Operation Answer
    pub earliest : IsAttempt s first
    pub call : o.call ≡ first.call
    pub no_earlier : (p : Operation Answer) → IsAttempt s p → o.call ≤ p.call
    pub returned : (r : Return Answer) → o.returned ≡ Some r → (p : Operation Answer) × IsAttempt s p × (p.returned ≡ Some r) × Ends r.result
    pub ended : (p : Operation Answer) (r : Return Answer) → IsAttempt s p → p.returned ≡ Some r → Ends r.result → o.returned ≢ None

  -- A history of requests: the operations without a session, and requests, each once, among them all that were answered. (One that wasn't
  -- answered may have taken effect or not.)
  pub record AreRequests (requests : List (Operation Answer)) : Type 0 where
    pub others : (o : Operation Answer) → session_of o.ask ≡ None → (Contains requests o ↔ Contains ops o)
    pub only : (s : Session) (o : Operation Answer) → session_of o.ask ≡ Some s → Contains requests o → IsRequest s o
    pub once : (s : Session) (o p : Operation Answer) → session_of o.ask ≡ Some s → session_of p.ask ≡ Some s
        → Contains requests o → Contains requests p → o ≡ p
    pub all : (s : Session) (p : Operation Answer) (r : Return Answer) → IsAttempt s p → p.returned ≡ Some r → Ends r.result
        → (o : Operation Answer) × Contains requests o × (session_of o.ask ≡ Some s)

-- If clients' operations are linearizable on the service, and no session is forgotten, so are their requests on the keys alone: each request takes
-- effect once, between its first call and its answer, however often it was repeated.
abbrev pub RequestsTakeEffectOnce : Type 0
RequestsTakeEffectOnce =
    (sessions : ℕ) (query_of : ℕ → queries.Query) (ids : List ℕ) (ops : List (Operation Answer))
    → length ids ≤ sessions → AreOf ids (map (λ o. o.ask) ops) → IsLinearizable (service sessions query_of) ops
    → (requests : List (Operation Answer)) × AreRequests ops requests × IsLinearizable (keys query_of) requests
