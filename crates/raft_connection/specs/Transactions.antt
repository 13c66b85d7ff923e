-- MULTI, EXEC, DISCARD and WATCH, and the commands between them (Redis 7.0, multi.c).
use Rattle.std.specs.Prelude.{ℕ, Bool, true, false, nat_lt, length, List, [], ◌∷◌, ◌++◌, Option, if◌then◌else◌}
use Rattle.raft_machine.specs.declared.command.Command as machine_command
use Rattle.raft_machine.specs.declared.command.Command.TheVariants as machine
use Rattle.raft_machine.specs.declared.machine.Session as client
use Rattle.raft_requests.specs.declared.request.Parsed.{Parsed}
use Rattle.raft_requests.specs.declared.request.Parsed.TheVariants as parsed
use Rattle.raft_connection.specs.declared.own_command.OwnCommand.{OwnCommand}
use Rattle.raft_connection.specs.declared.own_command.OwnCommand.TheVariants as own
use Rattle.raft_connection.specs.declared.refusal.Refusal.TheVariants.{NestedMulti, ExecWithoutMulti, DiscardWithoutMulti, ExecAborted, ExecArguments, LongTransaction, WatchInMulti, NoWatching}
use Rattle.raft_connection.specs.declared.response.Response.{Response}
use Rattle.raft_connection.specs.declared.response.Response.TheVariants.{Status, NoItems, Refused}
use Rattle.raft_connection.specs.declared.response.Status.TheVariants as status
use Rattle.raft_connection.specs.declared.session.Outcome.{Outcome}
use Rattle.raft_connection.specs.declared.session.Outcome.TheVariants.{Answers, Asks}
use Rattle.raft_connection.specs.declared.session.Session.{Session}
use Rattle.raft_connection.specs.declared.session.Transaction.{Transaction}
use Rattle.raft_connection.specs.declared.session.Transaction.TheVariants.{Outside, Queuing, Aborted}
use Rattle.raft_connection.specs.declared.session.Work.TheVariants as work
use Rattle.raft_connection.specs.Handshake.{done, wrong_number}
use Rattle.raft_connection.specs.Words.{Word}

abbrev pub is_inside : Transaction → Bool
is_inside Outside = false
is_inside _ = true

-- with another transaction
abbrev pub within : Session → Transaction → Session
within s t = record s { transaction = t }

-- EXEC will run nothing
abbrev pub spoil : Session → Session
spoil s = if is_inside s.transaction then within s Aborted else s

-- the transaction ends
abbrev pub leave : Session → Session × Transaction
leave s = (within s Outside, s.transaction)

-- a command with too many words, or too few
abbrev pub misused : Session → OwnCommand → Session × Response
misused s c = (spoil s, wrong_number c)

abbrev pub begun : Session → Session × Response
begun s = if is_inside s.transaction then (s, Refused NestedMulti) else (within s (Queuing []), done)

abbrev pub multi : Session → List Word → Session × Response
multi s [] = begun s
multi s _ = misused s own.Multi

-- what a transaction comes to, of a client's session if that was said
abbrev pub executed : Option client.Session → Transaction → Outcome
executed session Outside = Answers (Refused ExecWithoutMulti)
executed session Aborted = Answers (Refused ExecAborted)
executed session (Queuing []) = Answers NoItems
executed session (Queuing (c ∷ cs)) = Asks (work.Transaction session (c ∷ cs))

abbrev pub exec : Session → Option client.Session → List Word → Session × Outcome
exec s session [] = (within s Outside, executed session s.transaction)
exec s session _ = (within s Outside, Answers (Refused ExecArguments))

abbrev pub discarded : Transaction → Response
discarded Outside = Refused DiscardWithoutMulti
discarded _ = done

abbrev pub discard : Session → List Word → Session × Response
discard s [] = (within s Outside, discarded s.transaction)
discard s _ = misused s own.Discard

-- keys are not watched
abbrev pub watch : Session → List Word → Session × Response
watch s [] = misused s own.Watch
watch s _ = (s, Refused (if is_inside s.transaction then WatchInMulti else NoWatching))

abbrev pub unwatch : List Word → Response
unwatch [] = done
unwatch _ = wrong_number own.Unwatch

-- ---- commands between MULTI and EXEC

abbrev pub command_of : Parsed → machine_command.Command
command_of (parsed.Query q) = machine.Read q
command_of (parsed.Command c) = c

-- one more command, if there may be so many
abbrev pub pushed : ℕ → List machine_command.Command → machine_command.Command → Transaction
pushed limit cs c = if nat_lt (length cs) limit then Queuing (cs ++ c ∷ []) else Aborted

abbrev pub queued : Transaction → Response
queued Aborted = Refused LongTransaction
queued _ = Status status.Queued

abbrev pub added : Session → Transaction → Session × Response
added s t = (within s t, queued t)

-- what was refused before stays refused
abbrev pub queue_in : ℕ → Session → Transaction → Parsed → Session × Response
queue_in limit s (Queuing cs) p = added s (pushed limit cs (command_of p))
queue_in limit s other p = (s, Status status.Queued)

abbrev pub queue : ℕ → Session → Parsed → Session × Response
queue limit s p = queue_in limit s s.transaction p
