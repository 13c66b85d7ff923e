-- What a request comes to, by its words (Redis, processCommand).
use Rattle.std.specs.Prelude.{ℕ, ◌&&◌, not, List, Option, Some, None, Result, Ok, Err, if◌then◌else◌}
use Rattle.raft_requests.specs.declared.refusal.Refusal as machine_refusal
use Rattle.raft_requests.specs.declared.request.Parsed.{Parsed}
use Rattle.raft_requests.specs.declared.request.Parsed.TheVariants as parsed
use Rattle.raft_requests.specs.Requests as requests
use Rattle.raft_connection.specs.declared.limits.Settings.{Settings}
use Rattle.raft_connection.specs.declared.own_command.OwnCommand.{OwnCommand}
use Rattle.raft_connection.specs.declared.own_command.OwnCommand.TheVariants.{Auth, Client, Command, Config, Discard, Echo, Exec, Hello, Info, Multi, Once, Ping, Quit, Reset, Select, Unwatch, Watch}
use Rattle.raft_connection.specs.declared.refusal.Refusal.TheVariants as refusal
use Rattle.raft_connection.specs.declared.response.Response.{Response}
use Rattle.raft_connection.specs.declared.response.Response.TheVariants.{Bytes, Refused}
use Rattle.raft_connection.specs.declared.session.Outcome.{Outcome}
use Rattle.raft_connection.specs.declared.session.Outcome.TheVariants.{Answers, Asks}
use Rattle.raft_connection.specs.declared.session.Session.{Session}
use Rattle.raft_connection.specs.declared.session.Work.{Work}
use Rattle.raft_connection.specs.declared.session.Work.TheVariants as work
use Rattle.raft_connection.specs.Handshake.{wrong_number, auth, client, hello, reset, quit}
use Rattle.raft_connection.specs.Once.{once, refused}
use Rattle.raft_connection.specs.OwnCommands.{own_command, is_open_to_all, is_of_transactions}
use Rattle.raft_connection.specs.OwnReplies.{ping, echo, select, command, config}
use Rattle.raft_connection.specs.Transactions.{is_inside, multi, exec, discard, watch, unwatch, queue}
use Rattle.raft_connection.specs.Words.{Word}

abbrev pub answers : Session × Response → Session × Outcome
answers r = (r.0, Answers r.1)

-- what each command of the connection's own comes to
unfoldable pub own_outcome : Settings → Session → ℕ → OwnCommand → List Word → Session × Outcome
own_outcome settings s now Auth args = answers (auth settings.secret s args)
own_outcome settings s now Client args = answers (client s args)
own_outcome settings s now Command args = (s, Answers (command args))
own_outcome settings s now Config args = (s, Answers (config args))
own_outcome settings s now Discard args = answers (discard s args)
own_outcome settings s now Echo args = (s, Answers (echo args))
own_outcome settings s now Exec args = exec s None args
own_outcome settings s now Hello args = answers (hello settings.secret s args)
own_outcome settings s now Info args = (s, Answers (Bytes settings.info))
own_outcome settings s now Multi args = answers (multi s args)
own_outcome settings s now Once args = once s now args
own_outcome settings s now Ping args = (s, Answers (ping args))
own_outcome settings s now Quit args = answers (quit s)
own_outcome settings s now Reset args = answers (reset settings.secret s args)
own_outcome settings s now Select args = (s, Answers (select args))
own_outcome settings s now Unwatch args = (s, Answers (unwatch args))
own_outcome settings s now Watch args = answers (watch s args)
own_outcome settings s now other args = (s, Answers (wrong_number other))

-- if the client may send it now
unfoldable pub own_request : Settings → Session → ℕ → OwnCommand → List Word → Session × Outcome
own_request settings s now c args =
    if not s.is_authenticated && not (is_open_to_all c) then (s, Answers (Refused refusal.NotAuthenticated))
    else if is_inside s.transaction && not (is_of_transactions c) then refused s refusal.NotInTransaction
    else own_outcome settings s now c args

-- what a command of the state machine asks
abbrev pub work_of : Parsed → Work
work_of (parsed.Query q) = work.Query q
work_of (parsed.Command c) = work.Command None c

abbrev pub parsed_outcome : Settings → Session → Result Parsed machine_refusal.Refusal → Session × Outcome
parsed_outcome settings s (Err r) = refused s (refusal.Command r)
parsed_outcome settings s (Ok p) = if is_inside s.transaction then answers (queue settings.limits.commands s p) else (s, Asks (work_of p))

-- what any other command comes to
unfoldable pub machine_outcome : Settings → Session → ℕ → Word → List Word → Session × Outcome
machine_outcome settings s now name args =
    if s.is_authenticated then parsed_outcome settings s (requests.request now name args)
    else (s, Answers (Refused refusal.NotAuthenticated))

abbrev pub outcome_of : Option OwnCommand → Settings → Session → ℕ → Word → List Word → Session × Outcome
outcome_of (Some c) settings s now name args = own_request settings s now c args
outcome_of None settings s now name args = machine_outcome settings s now name args

-- a command's name, and its arguments
abbrev pub outcome : Settings → Session → ℕ → Word → List Word → Session × Outcome
outcome settings s now name args = outcome_of (own_command name) settings s now name args
