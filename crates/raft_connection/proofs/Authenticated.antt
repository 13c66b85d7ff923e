-- Nothing is handed out before a client has authenticated itself.
use Rattle.std.specs.Prelude.{◌≡◌, ℕ, ◌&&◌, Bool, true, false, not, List, [], ◌∷◌, Option, Some, None, Ok, Err, if◌then◌else◌}
use Rattle.raft_resp.specs.Requests.{Found, request_at}
use Rattle.raft_resp.specs.declared.error.Stop.TheVariants as stop
use Rattle.raft_connection.specs.declared.connection.Connection.{Connection}
use Rattle.raft_connection.specs.declared.connection.Step.TheVariants.{Waits}
use Rattle.raft_connection.specs.declared.limits.Settings.{Settings}
use Rattle.raft_connection.specs.declared.own_command.OwnCommand.{OwnCommand}
use Rattle.raft_connection.specs.declared.own_command.OwnCommand.TheVariants.{Auth, Hello, Quit, Reset}
use Rattle.raft_connection.specs.declared.refusal.Refusal.TheVariants as refusal
use Rattle.raft_connection.specs.declared.response.Response.TheVariants.{Refused}
use Rattle.raft_connection.specs.declared.session.Outcome.{Outcome}
use Rattle.raft_connection.specs.declared.session.Outcome.TheVariants.{Answers, Asks}
use Rattle.raft_connection.specs.declared.session.Session.{Session}
use Rattle.raft_connection.specs.Connection.{step, found, finished, is_waiting}
use Rattle.raft_connection.specs.Laws.{NothingIsHandedOutBefore, IsOwn}
use Rattle.raft_connection.specs.OwnCommands.{own_command, is_open_to_all, is_of_transactions}
use Rattle.raft_connection.specs.Run.{outcome, outcome_of, own_request, own_outcome, machine_outcome}
use Rattle.raft_connection.specs.Transactions.{is_inside, spoil}
use Rattle.raft_connection.specs.Words.{Word}

-- the connection answers it
abbrev IsAnswered : Outcome → Type 0
IsAnswered (Answers r) = Unit {0}
IsAnswered (Asks w) = ⊥

either : (b : Bool) (x y : Session × Outcome) → IsAnswered x.1 → IsAnswered y.1 → IsAnswered (if b then x else y).1
either true x y h k = h
either false x y h k = k

-- a command that any client may send
of_all : (settings : Settings) (s : Session) (now : ℕ) (c : OwnCommand) (args : List Word) → IsAnswered (own_outcome settings s now c args).1 → IsAnswered (own_request settings s now c args).1
unfolding own_request
of_all settings s now c args own =
    let refused : Session × Outcome = (s, Answers (Refused refusal.NotAuthenticated)) in
    let spoiled : Session × Outcome = (spoil s, Answers (Refused refusal.NotInTransaction)) in
    let within : Bool = is_inside s.transaction && not (is_of_transactions c) in
    either (not s.is_authenticated && not (is_open_to_all c)) refused (if within then spoiled else own_outcome settings s now c args) tt
    (either within spoiled (own_outcome settings s now c args) tt own)

auth_is_answered : (settings : Settings) (s : Session) (now : ℕ) (args : List Word) → IsAnswered (own_request settings s now Auth args).1
unfolding own_outcome
auth_is_answered settings s now args = of_all settings s now Auth args tt

hello_is_answered : (settings : Settings) (s : Session) (now : ℕ) (args : List Word) → IsAnswered (own_request settings s now Hello args).1
unfolding own_outcome
hello_is_answered settings s now args = of_all settings s now Hello args tt

quit_is_answered : (settings : Settings) (s : Session) (now : ℕ) (args : List Word) → IsAnswered (own_request settings s now Quit args).1
unfolding own_outcome
quit_is_answered settings s now args = of_all settings s now Quit args tt

reset_is_answered : (settings : Settings) (s : Session) (now : ℕ) (args : List Word) → IsAnswered (own_request settings s now Reset args).1
unfolding own_outcome
reset_is_answered settings s now args = of_all settings s now Reset args tt

own_is_answered : (settings : Settings) (s : Session) (now : ℕ) (c : OwnCommand) (args : List Word) → s.is_authenticated ≡ false → IsAnswered (own_request settings s now c args).1
unfolding own_request
own_is_answered settings s now Auth args e = auth_is_answered settings s now args
own_is_answered settings s now Hello args e = hello_is_answered settings s now args
own_is_answered settings s now Quit args e = quit_is_answered settings s now args
own_is_answered settings s now Reset args e = reset_is_answered settings s now args
own_is_answered settings s now _ args e = rw e tt

machine_is_answered : (settings : Settings) (s : Session) (now : ℕ) (name : Word) (args : List Word) → s.is_authenticated ≡ false → IsAnswered (machine_outcome settings s now name args).1
unfolding machine_outcome
machine_is_answered settings s now name args e = rw e tt

is_answered : (settings : Settings) (s : Session) (now : ℕ) (name : Word) (args : List Word) → s.is_authenticated ≡ false → IsAnswered (outcome settings s now name args).1
is_answered settings s now name args e = go (own_command name)
  where
    go : (o : Option OwnCommand) → IsAnswered (outcome_of o settings s now name args).1
    go (Some c) = own_is_answered settings s now c args e
    go None = machine_is_answered settings s now name args e

own_step : (c : Connection) (o : Outcome) → IsAnswered o → IsOwn (finished c o).1
own_step c (Answers r) h = tt
own_step c (Asks w) h = absurd h

found_is_own : (settings : Settings) (now : ℕ) (c : Connection) (r : Found (List Word)) → c.session.is_authenticated ≡ false → IsOwn (found settings now c r).1
found_is_own settings now c (Err stop.Unfinished) e = tt
found_is_own settings now c (Err stop.OutOfMemory) e = tt
found_is_own settings now c (Err (stop.Malformed fault)) e = tt
found_is_own settings now c (Ok x) e = go x.0
  where
    go : (words : List Word) → IsOwn (found settings now c (Ok (words, x.1))).1
    go [] = tt
    go (name ∷ args) = own_step _ (outcome settings c.session now name args).1 (is_answered settings c.session now name args e)

pub nothing_before : NothingIsHandedOutBefore
unfolding step
nothing_before settings now c e = go (is_waiting settings.limits c)
  where
    go : (b : Bool) → IsOwn (if b then (c, Waits) else found settings now c (request_at settings.limits.request c.received)).1
    go true = tt
    go false = found_is_own settings now c (request_at settings.limits.request c.received) e
