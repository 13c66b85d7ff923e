-- The commands that a connection answers itself (Redis 7.0, documentation of commands).
use Rattle.std.specs.Prelude.{ℕ, Bool, true, false, List, [], ◌∷◌, Option, codes, find}
use Rattle.std.specs.Str.{str_eq_ignore_ascii_case}
use Rattle.raft_connection.specs.declared.own_command.OwnCommand.{OwnCommand}
use Rattle.raft_connection.specs.declared.own_command.OwnCommand.TheVariants.{Auth, Client, ClientGetName, ClientId, ClientNoEvict, ClientNoTouch, ClientSetInfo, ClientSetName, Command, CommandCount, Config, ConfigGet, Discard, Echo, Exec, Hello, Info, Multi, Once, Ping, Quit, Reset, Select, Unwatch, Watch}

abbrev pub text_of : OwnCommand → List ℕ
text_of Auth = codes "auth"
text_of Client = codes "client"
text_of ClientGetName = codes "client|getname"
text_of ClientId = codes "client|id"
text_of ClientNoEvict = codes "client|no-evict"
text_of ClientNoTouch = codes "client|no-touch"
text_of ClientSetInfo = codes "client|setinfo"
text_of ClientSetName = codes "client|setname"
text_of Command = codes "command"
text_of CommandCount = codes "command|count"
text_of Config = codes "config"
text_of ConfigGet = codes "config|get"
text_of Discard = codes "discard"
text_of Echo = codes "echo"
text_of Exec = codes "exec"
text_of Hello = codes "hello"
text_of Info = codes "info"
text_of Multi = codes "multi"
text_of Once = codes "once"
text_of Ping = codes "ping"
text_of Quit = codes "quit"
text_of Reset = codes "reset"
text_of Select = codes "select"
text_of Unwatch = codes "unwatch"
text_of Watch = codes "watch"

abbrev pub commands : List OwnCommand
commands =
    Auth ∷ Client ∷ Command ∷ Config ∷ Discard ∷ Echo ∷ Exec ∷ Hello ∷ Info ∷
    Multi ∷ Once ∷ Ping ∷ Quit ∷ Reset ∷ Select ∷ Unwatch ∷ Watch ∷ []

-- whether a word is a command's name, in any case
abbrev pub is_named : List ℕ → OwnCommand → Bool
is_named word command = str_eq_ignore_ascii_case (text_of command) word

-- the command that a word names
unfoldable pub own_command : List ℕ → Option OwnCommand
own_command word = find (is_named word) commands

-- whether a client may send it before it has authenticated itself (Redis, CMD_NO_AUTH)
abbrev pub is_open_to_all : OwnCommand → Bool
is_open_to_all Auth = true
is_open_to_all Hello = true
is_open_to_all Quit = true
is_open_to_all Reset = true
is_open_to_all _ = false

-- whether it is run within a transaction, and not queued (Redis, processCommand)
abbrev pub is_of_transactions : OwnCommand → Bool
is_of_transactions Discard = true
is_of_transactions Exec = true
is_of_transactions Multi = true
is_of_transactions Once = true
is_of_transactions Quit = true
is_of_transactions Reset = true
is_of_transactions Watch = true
is_of_transactions _ = false
