-- Replies to callers.
use Rattle.raft_command.specs.declared.message.Token.{Token}
use Rattle.raft_command.specs.declared.respond.Respond.{Respond}
use Rattle.raft_command.specs.declared.respond.Respond.TheVariants as reply
use Rattle.raft_command.specs.declared.respond.RespondValue.{RespondValue}
use Rattle.raft_command.specs.declared.respond.RespondValue.TheVariants as value

-- what a reply returns: the token, and the value of the reply's kind
abbrev pub sent : {C NID N E D R S : Type 0} → Respond C NID N E D R S → Token × RespondValue C NID N E D R S
sent (reply.Vote s) = (s.token, value.Vote s.value)
sent (reply.AppendEntries s) = (s.token, value.AppendEntries s.value)
sent (reply.ReceiveSnapshotChunk s) = (s.token, value.ReceiveSnapshotChunk s.value)
sent (reply.InstallSnapshot s) = (s.token, value.InstallSnapshot s.value)
sent (reply.InstallFullSnapshot s) = (s.token, value.InstallFullSnapshot s.value)
sent (reply.Initialize s) = (s.token, value.Initialize s.value)
