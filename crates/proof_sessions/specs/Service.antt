-- The service as an object, with client sessions and without (Ongaro, Consensus: Bridging Theory and Practice, 6.3).
use Rattle.std.specs.Prelude.{ℕ, [], ◌∷◌, Option, Some, None}
use Rattle.raft_executor.specs.KeyValue as key_value
use Rattle.raft_machine.specs.Commands.{answer, run_all}
use Rattle.raft_machine.specs.Machine.{State, started}
use Rattle.raft_machine.specs.Space.{Space, advanced}
use Rattle.raft_machine.specs.declared.command.Query as queries
use Rattle.raft_machine.specs.declared.machine.Outcome.{Outcome}
use Rattle.raft_machine.specs.declared.machine.Outcome.TheVariants.{Answered}
use Rattle.raft_machine.specs.declared.machine.Request.{Request}
use Rattle.raft_machine.specs.declared.machine.Session.{Session}
use Rattle.raft_store.specs.declared.entry.Payload.TheVariants as payload
use Rattle.raft_store.specs.declared.entry.Value.{Value}
use Rattle.proof_clients.specs.Objects.{Ask, Object, Query, Update}

-- the request that a value holds, if it holds one
abbrev pub request_in : Value → Option Request
request_in v = key_value.request_in (payload.Value v)

-- what an operation is answered; an update by a value that holds no request, nothing
abbrev pub Answer : Type 0
Answer = Option Outcome

-- an object's queries are numbers: each stands for one of the state machine's
abbrev pub read : (ℕ → queries.Query) → Space → ℕ → Answer
read query_of s q = Some (Answered (answer s (query_of q) ∷ []))

-- a request's commands are run, whoever's it is
abbrev pub run_request : Space → Option Request → Space × Answer
run_request s None = (s, None)
run_request s (Some r) = let after = run_all (advanced s r.moment) r.commands in (after.0, Some (Answered after.1))

-- the keys alone: each update is run, each time that it comes
abbrev pub keys : (ℕ → queries.Query) → Object Space Answer
keys query_of = record {
  first = (started 0).space;
  update = λ s v. run_request s (request_in v);
  query = read query_of;
}

-- the state machine, which remembers the last answers of so many sessions
abbrev pub service : ℕ → (ℕ → queries.Query) → Object State Answer
service sessions query_of = record {
  first = started sessions;
  update = λ st v. key_value.ran st (request_in v);
  query = λ st q. read query_of st.space q;
}

-- whose request an operation is, and the request's number
abbrev pub session_in : Option Request → Option Session
session_in None = None
session_in (Some r) = r.session

abbrev pub session_of : Ask → Option Session
session_of (Update v x) = session_in (request_in v)
session_of (Query q) = None
