-- Commands that change what a connection knows of its client (Redis 7.0: HELLO, AUTH, CLIENT, RESET, QUIT).
use Rattle.std.specs.Prelude.{ℕ, ◌||◌, Bool, true, false, is_none, List, [], ◌∷◌, Option, Some, None, unwrap_or, Result, Ok, Err, codes, if◌then◌else◌}
use Rattle.raft_resp.specs.declared.replies.Protocol.TheVariants.{Resp2}
use Rattle.raft_connection.specs.declared.hello.HelloRequest.{HelloRequest}
use Rattle.raft_connection.specs.declared.own_command.OwnCommand.{OwnCommand}
use Rattle.raft_connection.specs.declared.own_command.OwnCommand.TheVariants as own
use Rattle.raft_connection.specs.declared.refusal.Refusal.{Refusal}
use Rattle.raft_connection.specs.declared.refusal.Refusal.TheVariants.{NotAuthenticatedHello, NoSecret, WrongSecret, WrongNumberOfArguments, Syntax, UnknownSubcommand, ClientName}
use Rattle.raft_connection.specs.declared.response.Response.{Response}
use Rattle.raft_connection.specs.declared.response.Response.TheVariants.{Status, Bytes, Nothing, Number, Greeting, Refused}
use Rattle.raft_connection.specs.declared.response.Status.TheVariants as status
use Rattle.raft_connection.specs.declared.session.Session.{Session}
use Rattle.raft_connection.specs.declared.session.Transaction.TheVariants.{Outside}
use Rattle.raft_connection.specs.Hello.{hello_request}
use Rattle.raft_connection.specs.Words.{Word, is, told, is_name, is_login}

abbrev pub done : Response
done = Status status.Done

abbrev pub wrong_number : OwnCommand → Response
wrong_number command = Refused (WrongNumberOfArguments command)

abbrev pub authenticated : Session → Session
authenticated s = record s { is_authenticated = true }

-- ---- HELLO

abbrev pub accepted : Session → HelloRequest → Session × Response
accepted s r = (record s { is_authenticated = true; protocol = unwrap_or r.protocol s.protocol; name = unwrap_or r.options.name s.name }, Greeting s.id)

abbrev pub judged : Session → HelloRequest → Option Bool → Session × Response
judged s r (Some false) = (s, Refused WrongSecret)
judged s r (Some true) = accepted s r
judged s r None = if s.is_authenticated then accepted s r else (s, Refused NotAuthenticatedHello)

abbrev pub greeted : Session → HelloRequest → Session × Response
greeted s r = judged s r r.options.login

abbrev pub answered : Session → Result HelloRequest Refusal → Session × Response
answered s (Ok r) = greeted s r
answered s (Err refusal) = (s, Refused refusal)

abbrev pub hello : Option (List ℕ) → Session → List Word → Session × Response
hello secret s args = answered s (hello_request secret args)

-- ---- AUTH

abbrev pub logged_in : Session → Bool → Session × Response
logged_in s true = (authenticated s, done)
logged_in s false = (s, Refused WrongSecret)

-- with a word alone
abbrev pub auth_alone : Option (List ℕ) → Session → Word → Session × Response
auth_alone None s word = (s, Refused NoSecret)
auth_alone (Some secret) s word = logged_in s (is_login (Some secret) (codes "default") word)

abbrev pub auth : Option (List ℕ) → Session → List Word → Session × Response
auth secret s [] = (s, wrong_number own.Auth)
auth secret s (word ∷ []) = auth_alone secret s word
auth secret s (user ∷ word ∷ []) = logged_in s (is_login secret user word)
auth secret s _ = (s, Refused Syntax)

-- ---- CLIENT

abbrev pub set_name : Session → List Word → Session × Response
set_name s (name ∷ []) = if is_name name then (record s { name = name }, done) else (s, Refused ClientName)
set_name s _ = (s, wrong_number own.ClientSetName)

-- no name is nothing
abbrev pub name_reply : List ℕ → Response
name_reply [] = Nothing
name_reply (b ∷ bs) = Bytes (b ∷ bs)

abbrev pub get_name : Session → List Word → Response
get_name s [] = name_reply s.name
get_name s _ = wrong_number own.ClientGetName

abbrev pub get_id : Session → List Word → Response
get_id s [] = Number s.id
get_id s _ = wrong_number own.ClientId

-- `on` or `off`, which make no difference here
abbrev pub flag : OwnCommand → List Word → Response
flag subcommand (word ∷ []) = if is (codes "on") word || is (codes "off") word then done else Refused Syntax
flag subcommand _ = wrong_number subcommand

abbrev pub set_info : List Word → Response
set_info (key ∷ value ∷ []) = done
set_info _ = wrong_number own.ClientSetInfo

unfoldable pub client_at : Session → Word → List Word → Session × Response
client_at s name args =
    if is (codes "id") name then (s, get_id s args)
    else if is (codes "getname") name then (s, get_name s args)
    else if is (codes "setname") name then set_name s args
    else if is (codes "setinfo") name then (s, set_info args)
    else if is (codes "no-evict") name then (s, flag own.ClientNoEvict args)
    else if is (codes "no-touch") name then (s, flag own.ClientNoTouch args)
    else (s, Refused (UnknownSubcommand own.Client (told name)))

abbrev pub client : Session → List Word → Session × Response
client s [] = (s, wrong_number own.Client)
client s (name ∷ args) = client_at s name args

-- ---- RESET and QUIT

-- as a connection that begins
abbrev pub reset : Option (List ℕ) → Session → List Word → Session × Response
reset secret s [] = (record s { protocol = Resp2; name = []; is_authenticated = is_none secret; transaction = Outside }, Status status.Reset)
reset secret s _ = (s, wrong_number own.Reset)

abbrev pub quit : Session → Session × Response
quit s = (record s { is_closing = true }, done)
