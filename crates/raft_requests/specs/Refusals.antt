-- The texts of errors, as Redis writes them, and what a parser answers.
use Rattle.std.specs.Prelude.{◌≡◌, ℕ, List, ◌++◌, Result, Ok, Err, codes}
use Rattle.raft_requests.specs.declared.refusal.Refusal.{Refusal}
use Rattle.raft_requests.specs.declared.refusal.Refusal.TheVariants.{UnknownCommand, WrongNumberOfArguments, Syntax, UnsupportedOption, IncompatibleNx, IncompatibleGtLt, NotAnInteger, InvalidCursor, InvalidExpireTime, DecrementOverflow}
use Rattle.raft_requests.specs.declared.refusal.ParseError.{ParseError}
use Rattle.raft_requests.specs.declared.refusal.ParseError.TheVariants as error
use Rattle.raft_requests.specs.Names.{text_of}

abbrev pub refusal_text : Refusal → List ℕ
refusal_text (UnknownCommand told) = codes "ERR unknown command " ++ told
refusal_text (WrongNumberOfArguments name) = codes "ERR wrong number of arguments for '" ++ text_of name ++ codes "' command"
refusal_text Syntax = codes "ERR syntax error"
refusal_text (UnsupportedOption told) = codes "ERR Unsupported option " ++ told
refusal_text IncompatibleNx = codes "ERR NX and XX, GT or LT options at the same time are not compatible"
refusal_text IncompatibleGtLt = codes "ERR GT and LT options at the same time are not compatible"
refusal_text NotAnInteger = codes "ERR value is not an integer or out of range"
refusal_text InvalidCursor = codes "ERR invalid cursor"
refusal_text (InvalidExpireTime name) = codes "ERR invalid expire time in '" ++ text_of name ++ codes "' command"
refusal_text DecrementOverflow = codes "ERR decrement would overflow"

infixl 10 ◌>>=◌
abbrev pub ◌>>=◌ : {A B : Type 0} → Result A Refusal → (A → Result B Refusal) → Result B Refusal
(Ok x) >>= f = f x
(Err e) >>= f = Err e

-- A parser answers what the words mean, unless memory runs out.
abbrev pub Refuses : {X : Type 0} → ParseError → Result X Refusal → Type 0
Refuses error.Memory meant = Unit {0}
Refuses (error.Refused refusal) meant = meant ≡ Err refusal

abbrev pub Gives : {X : Type 0} → Result X ParseError → Result X Refusal → Type 0
Gives (Ok x) meant = meant ≡ Ok x
Gives (Err e) meant = Refuses e meant
