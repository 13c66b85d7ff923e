-- The options of SET (Redis, SET, and parseExtendedStringArgumentsOrReply).
use Rattle.std.specs.Prelude.{ℕ, zero, suc, ◌&&◌, Bool, true, false, not, List, [], ◌∷◌, codes, fold, Option, Some, None, Result, Ok, Err, ℤ, pos, negsuc, if◌then◌else◌}
use Rattle.std.specs.List.{list_any}
use Rattle.std.specs.Str.{str_eq_ignore_ascii_case}
use Rattle.std.specs.Option.{option_and_then, ok_or}
use Rattle.raft_machine.specs.declared.command.Condition.{Condition}
use Rattle.raft_machine.specs.declared.command.Condition.TheVariants as condition
use Rattle.raft_machine.specs.declared.command.Expiry.{Expiry}
use Rattle.raft_machine.specs.declared.command.Expiry.TheVariants as expiry
use Rattle.raft_machine.specs.declared.command.SetReply.TheVariants as reply
use Rattle.raft_machine.specs.declared.command.SetOptions.{SetOptions}
use Rattle.raft_machine.specs.Numbers.{integer_of}
use Rattle.raft_requests.specs.declared.command_name.CommandName.TheVariants as name
use Rattle.raft_requests.specs.declared.refusal.Refusal.{Refusal}
use Rattle.raft_requests.specs.declared.refusal.Refusal.TheVariants.{Syntax, NotAnInteger, InvalidExpireTime}
use Rattle.raft_requests.specs.declared.times.TimeForm.{TimeForm}
use Rattle.raft_requests.specs.declared.times.TimeForm.TheVariants as form
use Rattle.raft_requests.specs.declared.options.SetOption.{SetOption}
use Rattle.raft_requests.specs.declared.options.SetOption.TheVariants.{IfAbsent, IfPresent, Get, KeepTtl, Time}
use Rattle.raft_requests.specs.declared.options.DraftExpiry.{DraftExpiry}
use Rattle.raft_requests.specs.declared.options.DraftExpiry.TheVariants as draft
use Rattle.raft_requests.specs.declared.options.Draft.{Draft}
use Rattle.raft_requests.specs.Refusals.{◌>>=◌}
use Rattle.raft_requests.specs.Times.{moment_of}
use Rattle.raft_requests.specs.Words.{Word}

-- ---- which options words spell, in any case

abbrev pub is : List ℕ → Word → Bool
is option word = str_eq_ignore_ascii_case word option

unfoldable pub flag_of : Word → Option SetOption
flag_of w =
    if is (codes "nx") w then Some IfAbsent
    else if is (codes "xx") w then Some IfPresent
    else if is (codes "get") w then Some Get
    else if is (codes "keepttl") w then Some KeepTtl
    else None

-- how the number after a word tells a time
unfoldable pub form_of : Word → Option TimeForm
form_of w =
    if is (codes "ex") w then Some form.Seconds
    else if is (codes "px") w then Some form.Milliseconds
    else if is (codes "exat") w then Some form.UnixSeconds
    else if is (codes "pxat") w then Some form.UnixMilliseconds
    else None

-- an option and what follows it: a word is one, or it and the number after it are
abbrev pub first_of : Option SetOption → Option TimeForm → List Word → Option (SetOption × List Word)
first_of (Some o) f ws = Some (o, ws)
first_of None None ws = None
first_of None (Some f) [] = None
first_of None (Some f) (n ∷ ws) = Some (Time f (integer_of n), ws)

unfoldable pub option_at : Word → List Word → Option (SetOption × List Word)
option_at w ws = first_of (flag_of w) (form_of w) ws

abbrev pub behind : SetOption → Option (List SetOption) → Option (List SetOption)
behind o os = option_and_then (λ os. Some (o ∷ os)) os

-- the options that words spell: one or two words are an option, and then those after it
abbrev pub spelled : Option SetOption → Option TimeForm → Option ℤ → Option (List SetOption) → Option (List SetOption) → Option (List SetOption)
spelled (Some o) f n one_on two_on = behind o one_on
spelled None None n one_on two_on = None
spelled None (Some f) n one_on two_on = behind (Time f n) two_on

unfoldable pub choices : List Word → Option (List SetOption)
choices [] = Some []
choices (w ∷ []) = option_and_then (λ o. Some (o ∷ [])) (flag_of w)
choices (w ∷ n ∷ ws) = spelled (flag_of w) (form_of w) (integer_of n) (choices (n ∷ ws)) (choices ws)

-- ---- which of them contradict each other

abbrev pub same_form : TimeForm → TimeForm → Bool
same_form form.Seconds form.Seconds = true
same_form form.Milliseconds form.Milliseconds = true
same_form form.UnixSeconds form.UnixSeconds = true
same_form form.UnixMilliseconds form.UnixMilliseconds = true
same_form _ _ = false

abbrev pub contradict : SetOption → SetOption → Bool
contradict IfAbsent IfPresent = true
contradict IfPresent IfAbsent = true
contradict KeepTtl (Time f n) = true
contradict (Time f n) KeepTtl = true
contradict (Time f n) (Time g m) = not (same_form f g)
contradict _ _ = false

abbrev pub agree : List SetOption → Bool
agree [] = true
agree (o ∷ os) = not (list_any (contradict o) os) && agree os

-- ---- what they say

abbrev pub unsaid : Draft
unsaid = record { condition = condition.Always; reply = reply.Status; expiry = draft.Never }

-- of several times the last counts
abbrev pub said : Draft → SetOption → Draft
said d IfAbsent = record { condition = condition.IfAbsent; reply = d.reply; expiry = d.expiry }
said d IfPresent = record { condition = condition.IfPresent; reply = d.reply; expiry = d.expiry }
said d Get = record { condition = d.condition; reply = reply.Old; expiry = d.expiry }
said d KeepTtl = record { condition = d.condition; reply = d.reply; expiry = draft.Keep }
said d (Time f n) = record { condition = d.condition; reply = d.reply; expiry = draft.Time f n }

-- what the options say that words spell, none of which contradicts another
unfoldable pub drafted : List Word → Option Draft
drafted ws = option_and_then (λ os. if agree os then Some (fold said unsaid os) else None) (choices ws)

-- a time is positive
abbrev pub positive : ℤ → Bool
positive (pos zero) = false
positive (pos (suc n)) = true
positive (negsuc n) = false

abbrev pub expiry_of : DraftExpiry → ℕ → Result Expiry Refusal
expiry_of draft.Never now = Ok expiry.Never
expiry_of draft.Keep now = Ok expiry.Keep
expiry_of (draft.Time f None) now = Err NotAnInteger
expiry_of (draft.Time f (Some n)) now = ok_or (option_and_then (λ at. Some (expiry.At at)) (if positive n then moment_of f now n else None)) (InvalidExpireTime name.Set)

unfoldable pub options : ℕ → List Word → Result SetOptions Refusal
options now ws = ok_or (drafted ws) Syntax >>= λ d. expiry_of d.expiry now >>= λ e. Ok (record { condition = d.condition; expiry = e; reply = d.reply })

-- ---- an option beside what was said

abbrev pub is_if_present : Condition → Bool
is_if_present condition.IfPresent = true
is_if_present _ = false

abbrev pub is_if_absent : Condition → Bool
is_if_absent condition.IfAbsent = true
is_if_absent _ = false

abbrev pub is_time : DraftExpiry → Bool
is_time (draft.Time f n) = true
is_time _ = false

abbrev pub is_other_time : TimeForm → DraftExpiry → Bool
is_other_time g draft.Never = false
is_other_time g draft.Keep = true
is_other_time g (draft.Time f n) = not (same_form f g)

-- whether an option contradicts what was said
abbrev pub clashes : Draft → SetOption → Bool
clashes d IfAbsent = is_if_present d.condition
clashes d IfPresent = is_if_absent d.condition
clashes d Get = false
clashes d KeepTtl = is_time d.expiry
clashes d (Time g n) = is_other_time g d.expiry

abbrev pub added : Draft → SetOption → Option Draft
added d o = if clashes d o then None else Some (said d o)
