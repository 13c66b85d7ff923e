-- Commands that a connection answers, and that change nothing (Redis 7.0: PING, ECHO, SELECT, COMMAND, CONFIG).
use Rattle.std.specs.Prelude.{zero, ℤ, pos, List, [], ◌∷◌, Option, Some, None, codes, if◌then◌else◌}
use Rattle.raft_machine.specs.Numbers.{integer_of}
use Rattle.raft_connection.specs.declared.own_command.OwnCommand.TheVariants as own
use Rattle.raft_connection.specs.declared.refusal.Refusal.TheVariants.{UnknownSubcommand, NotAnInteger, NoSuchDatabase}
use Rattle.raft_connection.specs.declared.response.Response.{Response}
use Rattle.raft_connection.specs.declared.response.Response.TheVariants.{Status, Bytes, Number, NoItems, NoPairs, Refused}
use Rattle.raft_connection.specs.declared.response.Status.TheVariants as status
use Rattle.raft_connection.specs.Handshake.{done, wrong_number}
use Rattle.raft_connection.specs.Words.{Word, is, told}

abbrev pub ping : List Word → Response
ping [] = Status status.Pong
ping (word ∷ []) = Bytes word
ping _ = wrong_number own.Ping

abbrev pub echo : List Word → Response
echo (word ∷ []) = Bytes word
echo _ = wrong_number own.Echo

-- there is one database, 0
abbrev pub database : Option ℤ → Response
database None = Refused NotAnInteger
database (Some (pos zero)) = done
database (Some _) = Refused NoSuchDatabase

abbrev pub select : List Word → Response
select (word ∷ []) = database (integer_of word)
select _ = wrong_number own.Select

-- nothing is told of commands
abbrev pub command_count : List Word → Response
command_count [] = Number 0
command_count _ = wrong_number own.CommandCount

abbrev pub command_at : Word → List Word → Response
command_at name args =
    if is (codes "count") name then command_count args
    else if is (codes "docs") name then NoPairs
    else Refused (UnknownSubcommand own.Command (told name))

abbrev pub command : List Word → Response
command [] = NoItems
command (name ∷ args) = command_at name args

-- there are no parameters
abbrev pub config_get : List Word → Response
config_get [] = wrong_number own.ConfigGet
config_get _ = NoPairs

abbrev pub config_at : Word → List Word → Response
config_at name args = if is (codes "get") name then config_get args else Refused (UnknownSubcommand own.Config (told name))

abbrev pub config : List Word → Response
config [] = wrong_number own.Config
config (name ∷ args) = config_at name args
