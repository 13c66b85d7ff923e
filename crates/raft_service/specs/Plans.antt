-- How requests reach the server, and what they put into the log.
use Rattle.std.specs.Prelude.{ℕ, max, nat_le, Bool, length, List, [], ◌∷◌, Option, None, if◌then◌else◌}
use Rattle.raft_answers.specs.declared.request.Operation.{Operation}
use Rattle.raft_answers.specs.declared.request.Operation.TheVariants as operation
use Rattle.raft_connection.specs.declared.session.Work.{Work}
use Rattle.raft_connection.specs.declared.session.Work.TheVariants as work
use Rattle.raft_machine.specs.declared.command.Command.{Command}
use Rattle.raft_machine.specs.declared.machine.Request.{Request}
use Rattle.raft_machine.specs.declared.machine.Session.{Session}
use Rattle.raft_request_codec.specs.Requests.{request}
use Rattle.raft_service.specs.declared.plan.Plan.{Plan}
use Rattle.raft_service.specs.declared.plan.Way.{Way}
use Rattle.raft_service.specs.declared.plan.Way.TheVariants.{Entry, Round}
use Rattle.raft_service.specs.declared.question.Wanted.TheVariants as wanted

-- how many replies are asked for
abbrev pub count_of : Work → ℕ
count_of (work.Query q) = 1
count_of (work.Command session c) = 1
count_of (work.Transaction session cs) = length cs

-- commands at a moment, of a client's session if one was named
abbrev pub request_of : Option Session → ℕ → List Command → Request
request_of session now commands = record { session = session; moment = now; commands = commands }

abbrev pub update : Option Session → ℕ → List Command → Operation
update session now commands = operation.Write (request.bytes (request_of session now commands))

-- a query puts the time into the log, unless a request before it did
abbrev pub clock : ℕ → ℕ → Operation
clock now told = if nat_le now told then operation.Read else update None now []

-- it goes by a round, if it may
abbrev pub query_way : ℕ → ℕ → Bool → Way
query_way now told by_round = if by_round then Round else Entry (clock now told)

abbrev pub planned : ℕ → ℕ → Bool → Work → Plan
planned now told by_round (work.Query q) = record { wanted = wanted.Query q; way = query_way now told by_round; told = max told now }
planned now told by_round (work.Command session c) = record { wanted = wanted.Replies 1; way = Entry (update session now (c ∷ [])); told = now }
planned now told by_round (work.Transaction session cs) =
    record { wanted = wanted.Replies (length cs); way = Entry (update session now cs); told = now }
