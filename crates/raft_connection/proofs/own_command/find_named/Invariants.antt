use Rattle.std.proofs.Common.{◌≡◌, find, drop}
use Rattle.raft_connection.specs.OwnCommands.{is_named}
use Rattle.raft_connection.proofs.own_command.find_named.Given as goal

abbrev pub invariant-loop-command : goal.invariant-loop-command
invariant-loop-command l = find (is_named l.word) (drop l.command-index l.commands) ≡ find (is_named l.word) l.commands
