-- The texts of errors (Redis 7.0; those of transactions that are too long, of ONCE and of WATCH, are this service's own).
use Rattle.std.specs.Prelude.{ℕ, nat_lt, List, [], ◌∷◌, ◌++◌, codes, if◌then◌else◌}
use Rattle.raft_resp.specs.Replies as written
use Rattle.raft_resp.specs.declared.error.Fault.{Fault}
use Rattle.raft_resp.specs.declared.error.Fault.TheVariants.{Count, Length, Mark, LongCount, LongLength, LongLine, Quotes, End}
use Rattle.raft_requests.specs.Refusals as requests
use Rattle.raft_connection.specs.declared.own_command.OwnCommand.{OwnCommand}
use Rattle.raft_connection.specs.declared.own_command.OwnCommand.TheVariants as own
use Rattle.raft_connection.specs.declared.refusal.Refusal.{Refusal}
use Rattle.raft_connection.specs.declared.refusal.Refusal.TheVariants.{Protocol, Command, NotAuthenticated, NotAuthenticatedHello, NoSecret, WrongSecret, WrongNumberOfArguments, Syntax, UnknownSubcommand, NoVersion, UnsupportedVersion, HelloOption, ClientName, NotAnInteger, NoSuchDatabase, NestedMulti, ExecWithoutMulti, DiscardWithoutMulti, ExecAborted, ExecArguments, LongTransaction, NotInTransaction, NotInOnce, WatchInMulti, NoWatching}
use Rattle.raft_connection.specs.OwnCommands.{text_of}

-- a mark is a byte
abbrev pub byte_of : ℕ → ℕ
byte_of mark = if nat_lt mark 256 then mark else 63

-- what is wrong with a client's bytes (Redis, networking.c)
abbrev pub fault_text : Fault → List ℕ
fault_text Count = codes "ERR Protocol error: invalid multibulk length"
fault_text Length = codes "ERR Protocol error: invalid bulk length"
fault_text (Mark c) = codes "ERR Protocol error: expected '$', got '" ++ (byte_of c ∷ []) ++ codes "'"
fault_text LongCount = codes "ERR Protocol error: too big mbulk count string"
fault_text LongLength = codes "ERR Protocol error: too big bulk count string"
fault_text LongLine = codes "ERR Protocol error: too big inline request"
fault_text Quotes = codes "ERR Protocol error: unbalanced quotes in request"
fault_text End = codes "ERR Protocol error: expected CRLF"

-- where to look for subcommands
abbrev pub help : OwnCommand → List ℕ
help own.Client = codes "'. Try CLIENT HELP."
help own.Config = codes "'. Try CONFIG HELP."
help _ = codes "'. Try COMMAND HELP."

abbrev pub refusal_text : Refusal → List ℕ
refusal_text (Protocol fault) = fault_text fault
refusal_text (Command refusal) = requests.refusal_text refusal
refusal_text NotAuthenticated = codes "NOAUTH Authentication required."
refusal_text NotAuthenticatedHello = codes "NOAUTH HELLO must be called with the client already authenticated, otherwise the HELLO AUTH <user> <pass> option can be used to authenticate the client and select the RESP protocol version at the same time"
refusal_text NoSecret = codes "ERR AUTH <password> called without any password configured for the default user. Are you sure your configuration is correct?"
refusal_text WrongSecret = codes "WRONGPASS invalid username-password pair or user is disabled."
refusal_text (WrongNumberOfArguments command) = codes "ERR wrong number of arguments for '" ++ text_of command ++ codes "' command"
refusal_text Syntax = codes "ERR syntax error"
refusal_text (UnknownSubcommand command told) = codes "ERR unknown subcommand '" ++ told ++ help command
refusal_text NoVersion = codes "ERR Protocol version is not an integer or out of range"
refusal_text UnsupportedVersion = codes "NOPROTO unsupported protocol version"
refusal_text (HelloOption told) = codes "ERR Syntax error in HELLO option '" ++ told ++ codes "'"
refusal_text ClientName = codes "ERR Client names cannot contain spaces, newlines or special characters."
refusal_text NotAnInteger = codes "ERR value is not an integer or out of range"
refusal_text NoSuchDatabase = codes "ERR DB index is out of range"
refusal_text NestedMulti = codes "ERR MULTI calls can not be nested"
refusal_text ExecWithoutMulti = codes "ERR EXEC without MULTI"
refusal_text DiscardWithoutMulti = codes "ERR DISCARD without MULTI"
refusal_text ExecAborted = codes "EXECABORT Transaction discarded because of previous errors."
refusal_text ExecArguments = codes "EXECABORT Transaction discarded because of: wrong number of arguments for 'exec' command"
refusal_text LongTransaction = codes "ERR too many commands in the transaction"
refusal_text NotInTransaction = codes "ERR Command not allowed inside a transaction"
refusal_text NotInOnce = codes "ERR Command not allowed inside ONCE"
refusal_text WatchInMulti = codes "ERR WATCH inside MULTI is not allowed"
refusal_text NoWatching = codes "ERR watching keys is not supported"

-- an error
abbrev pub refusal_bytes : Refusal → List ℕ
refusal_bytes refusal = written.error (refusal_text refusal)
