-- A worked history: a client's request isn't answered, it asks again, and is; then it reads. The request's commands were run once, at the moment
-- of the first attempt.
use Rattle.std.proofs.Common.{ℕ, ◌<◌, ◌≡◌, List, [], ◌∷◌, Some, None, Option, arith, sym, ap₂}
use Rattle.raft_executor.specs.KeyValue as key_value
use Rattle.raft_machine.specs.Commands.{answer, run_all}
use Rattle.raft_machine.specs.Machine.{State, apply, started}
use Rattle.raft_machine.specs.Space.{Space, advanced}
use Rattle.raft_machine.specs.declared.command.Command.{Command}
use Rattle.raft_machine.specs.declared.command.Query as queries
use Rattle.raft_machine.specs.declared.command.Reply.{Reply}
use Rattle.raft_machine.specs.declared.machine.Outcome.TheVariants.{Answered}
use Rattle.raft_machine.specs.declared.machine.Request.{Request}
use Rattle.raft_store.specs.declared.entry.Entry.{Entry}
use Rattle.raft_store.specs.declared.entry.Value.{Value}
use Rattle.proof_clients.specs.Objects.{IsLegal, IsTimely, Operation, Query, Update}
use Rattle.proof_sessions.specs.Service.{Answer, request_in, service}

module _ (commands : List Command) (query_of : ℕ → queries.Query) where
  -- the first request of session 7, as a leader puts it into the log at a moment
  abbrev request : ℕ → Request
  request moment = record { session = Some (record { id = 7; number = 1 }); moment = moment; commands = commands }

  -- its commands are run once
  abbrev ran : Space × List Reply
  ran = run_all (advanced (started 1).space 5) commands

  -- after one attempt, and after two
  abbrev once : Option Request → State
  once q = (key_value.ran (started 1) q).0

  abbrev twice : Option Request → Option Request → State
  twice q p = (key_value.ran (once q) p).0

  module _ (v w : Value) (x y : Entry) (first : request_in v ≡ Some (request 5)) (again : request_in w ≡ Some (request 9)) where
    abbrev operations : List (Operation Answer)
    operations =
        record { call = 0; ask = Update v x; returned = None }
        ∷ record { call = 1; ask = Update w y; returned = Some (record { events = 2; commands = 0; taken = 0; result = Some (Answered ran.1) }) }
        ∷ record { call = 3; ask = Query 0; returned = Some (record { events = 4; commands = 0; taken = 0; result = Some (Answered (answer ran.0 (query_of 0) ∷ [])) }) }
        ∷ []

    repeat_told : (key_value.ran (once (request_in v)) (request_in w)).1 ≡ Some (Answered ran.1)
    unfolding apply
    repeat_told = ap₂ (λ q p. (key_value.ran (once q) p).1) first again

    read_told : (let told : Answer = Some (Answered (answer (twice (request_in v) (request_in w)).space (query_of 0) ∷ [])) in told) ≡ Some (Answered (answer ran.0 (query_of 0) ∷ []))
    unfolding apply
    read_told = ap₂ (λ q p. let told : Answer = Some (Answered (answer (twice q p).space (query_of 0) ∷ [])) in told) first again

    pub legal : IsLegal (service 1 query_of) (started 1) operations
    legal = (tt, (sym repeat_told, (sym read_told, tt)))

    pub timely : IsTimely operations
    timely = ((λ (l : 2 < 0). omega arith, (λ (l : 4 < 0). omega arith, tt)), ((λ (l : 4 < 1). omega arith, tt), (tt, tt)))
