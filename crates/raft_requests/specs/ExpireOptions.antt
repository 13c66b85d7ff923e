-- The options of EXPIRE (Redis, EXPIRE, and parseExtendedExpireArgumentsOrReply).
use Rattle.std.specs.Prelude.{Bool, not, ◌&&◌, ◌||◌, List, codes, find, Option, Some, None, Result, Ok, Err, if◌then◌else◌}
use Rattle.std.specs.List.{list_any}
use Rattle.raft_machine.specs.declared.command.ExpireCondition.{ExpireCondition}
use Rattle.raft_machine.specs.declared.command.ExpireCondition.TheVariants.{Always, IfPersistent, IfVolatile, IfLater, IfEarlier, IfVolatileAndEarlier}
use Rattle.raft_requests.specs.declared.refusal.Refusal.{Refusal}
use Rattle.raft_requests.specs.declared.refusal.Refusal.TheVariants.{UnsupportedOption, IncompatibleNx, IncompatibleGtLt}
use Rattle.raft_requests.specs.Options.{is}
use Rattle.raft_requests.specs.Words.{Word, unsupported}

-- whether a word is an option, in any case
unfoldable pub is_option : Word → Bool
is_option w = is (codes "nx") w || is (codes "xx") w || is (codes "gt") w || is (codes "lt") w

-- what the options say of which there are these, NX alone
abbrev pub condition_of : Bool → Bool → Bool → Bool → ExpireCondition
condition_of nx xx gt lt =
    if nx then IfPersistent
    else if gt then IfLater
    else if lt then (if xx then IfVolatileAndEarlier else IfEarlier)
    else (if xx then IfVolatile else Always)

abbrev pub compatible : Bool → Bool → Bool → Bool → Result ExpireCondition Refusal
compatible nx xx gt lt =
    if nx && (xx || gt || lt) then Err IncompatibleNx
    else if gt && lt then Err IncompatibleGtLt
    else Ok (condition_of nx xx gt lt)

abbrev pub said_by : List Word → Option Word → Result ExpireCondition Refusal
said_by ws (Some other) = Err (UnsupportedOption (unsupported other))
said_by ws None = compatible (list_any (is (codes "nx")) ws) (list_any (is (codes "xx")) ws) (list_any (is (codes "gt")) ws) (list_any (is (codes "lt")) ws)

-- the condition that words spell, of which each is an option
unfoldable pub expire_condition : List Word → Result ExpireCondition Refusal
expire_condition ws = said_by ws (find (λ w. not (is_option w)) ws)
