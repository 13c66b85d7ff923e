-- ONCE SESSION NUMBER COMMAND [ARGUMENT ..]: a command, also one that reads, or EXEC, that takes effect once (Ongaro, Consensus: Bridging Theory
-- and Practice, 6.3). Redis has no such command.
use Rattle.std.specs.Prelude.{ℕ, List, ◌∷◌, Option, Some, None, Result, Ok, Err, if◌then◌else◌}
use Rattle.std.specs.Option.{option_and_then, option_map}
use Rattle.raft_machine.specs.Numbers.{natural_of}
use Rattle.raft_machine.specs.declared.machine.Session as client
use Rattle.raft_requests.specs.Requests.{request}
use Rattle.raft_requests.specs.declared.refusal.Refusal as machine_refusal
use Rattle.raft_requests.specs.declared.request.Parsed.{Parsed}
use Rattle.raft_connection.specs.declared.own_command.OwnCommand.{OwnCommand}
use Rattle.raft_connection.specs.declared.own_command.OwnCommand.TheVariants as own
use Rattle.raft_connection.specs.declared.refusal.Refusal.{Refusal}
use Rattle.raft_connection.specs.declared.refusal.Refusal.TheVariants.{Command, NotAnInteger, NotInTransaction, NotInOnce}
use Rattle.raft_connection.specs.declared.response.Response.TheVariants.{Refused}
use Rattle.raft_connection.specs.declared.session.Outcome.{Outcome}
use Rattle.raft_connection.specs.declared.session.Outcome.TheVariants.{Answers, Asks}
use Rattle.raft_connection.specs.declared.session.Session.{Session}
use Rattle.raft_connection.specs.declared.session.Work.TheVariants as work
use Rattle.raft_connection.specs.OwnCommands.{own_command}
use Rattle.raft_connection.specs.Transactions.{is_inside, spoil, misused, exec, command_of}
use Rattle.raft_connection.specs.Words.{Word}

-- two numbers below 2^64
abbrev pub session_of : Word → Word → Option client.Session
session_of id number = option_and_then (λ i. option_map (λ n. record { id = i; number = n }) (natural_of number)) (natural_of id)

-- a transaction that it stands in is spoiled
abbrev pub refused : Session → Refusal → Session × Outcome
refused s refusal = (spoil s, Answers (Refused refusal))

abbrev pub machine_command_as : Session → client.Session → Result Parsed machine_refusal.Refusal → Session × Outcome
machine_command_as s c (Ok p) = (s, Asks (work.Command (Some c) (command_of p)))
machine_command_as s c (Err r) = refused s (Command r)

-- a command of the state machine: in a transaction, EXEC alone has a session
abbrev pub machine_command : Session → client.Session → ℕ → Word → List Word → Session × Outcome
machine_command s c now name args = if is_inside s.transaction then refused s NotInTransaction else machine_command_as s c (request now name args)

abbrev pub wrapped_as : Option OwnCommand → Session → client.Session → ℕ → Word → List Word → Session × Outcome
wrapped_as (Some own.Exec) s c now name args = exec s (Some c) args
wrapped_as (Some _) s c now name args = refused s NotInOnce
wrapped_as None s c now name args = machine_command s c now name args

abbrev pub wrapped : Session → client.Session → ℕ → Word → List Word → Session × Outcome
wrapped s c now name args = wrapped_as (own_command name) s c now name args

abbrev pub once_of : Option client.Session → Session → ℕ → Word → List Word → Session × Outcome
once_of (Some c) s now name args = wrapped s c now name args
once_of None s now name args = refused s NotAnInteger

unfoldable pub once : Session → ℕ → List Word → Session × Outcome
once s now (id ∷ number ∷ name ∷ args) = once_of (session_of id number) s now name args
once s now _ = let r = misused s own.Once in (r.0, Answers r.1)
