-- The words behind a command's name: how many there are, and what they spell.
use Rattle.std.specs.Prelude.{ℕ, ◌-◌, ◌==◌, ◌||◌, Bool, not, List, [], ◌∷◌, ◌++◌, length, take, map, take_while, Result, Ok, Err, nat_lt, ℤ, codes, if◌then◌else◌}
use Rattle.std.specs.Option.{ok_or}
use Rattle.raft_machine.specs.Numbers.{integer_of}
use Rattle.raft_requests.specs.declared.command_name.CommandName.{CommandName}
use Rattle.raft_requests.specs.declared.refusal.Refusal.{Refusal}
use Rattle.raft_requests.specs.declared.refusal.Refusal.TheVariants.{WrongNumberOfArguments, NotAnInteger}
use Rattle.raft_requests.specs.Refusals.{◌>>=◌}

abbrev pub Word : Type 0
Word = List ℕ

-- ---- so many words, and else a refusal (Redis, the arity of a command)

abbrev pub none : CommandName → List Word → Result (Unit {0}) Refusal
none name [] = Ok tt
none name _ = Err (WrongNumberOfArguments name)

abbrev pub one : CommandName → List Word → Result Word Refusal
one name (w ∷ []) = Ok w
one name _ = Err (WrongNumberOfArguments name)

abbrev pub two : CommandName → List Word → Result (Word × Word) Refusal
two name (v ∷ w ∷ []) = Ok (v, w)
two name _ = Err (WrongNumberOfArguments name)

abbrev pub three : CommandName → List Word → Result (Word × Word × Word) Refusal
three name (u ∷ v ∷ w ∷ []) = Ok (u, v, w)
three name _ = Err (WrongNumberOfArguments name)

-- one or more
abbrev pub some : CommandName → List Word → Result (List Word) Refusal
some name [] = Err (WrongNumberOfArguments name)
some name (w ∷ ws) = Ok (w ∷ ws)

-- one pair or more
unfoldable pub pairs : CommandName → List Word → Result (List (Word × Word)) Refusal
pairs name (v ∷ w ∷ []) = Ok ((v, w) ∷ [])
pairs name (v ∷ w ∷ ws) = pairs name ws >>= λ ps. Ok ((v, w) ∷ ps)
pairs name _ = Err (WrongNumberOfArguments name)

-- ---- a number

abbrev pub number : Word → Result ℤ Refusal
number w = ok_or (integer_of w) NotAnInteger

-- ---- what an error tells of words (Redis, commandCheckExistence)

-- an end of a line
abbrev pub is_end : ℕ → Bool
is_end b = b == 13 || b == 10

-- line ends would end the error
abbrev pub in_one_line : ℕ → ℕ
in_one_line b = if is_end b then 32 else b

-- up to a byte of 0, where C ends a string
abbrev pub c_string : Word → List ℕ
c_string word = take_while (λ b. not (b == 0)) word

-- as C prints a string
abbrev pub told : Word → List ℕ
told word = map in_one_line (c_string word)

-- each argument in quotes behind what was told before, as long as that has fewer than 128 bytes
unfoldable pub args_told : List ℕ → List Word → List ℕ
args_told before [] = before
args_told before (w ∷ ws) =
    if nat_lt (length before) 128 then args_told (before ++ codes "'" ++ told (take (128 - length before) w) ++ codes "' ") ws
    else before

-- a byte before others, unless it is an end of a line and the last
abbrev pub before_end : ℕ → List ℕ → List ℕ
before_end b [] = if is_end b then [] else b ∷ []
before_end b (c ∷ cs) = b ∷ c ∷ cs

-- bytes without the ends of lines at their end (Redis, addReplyErrorFormatInternal)
unfoldable pub without_ends : List ℕ → List ℕ
without_ends [] = []
without_ends (b ∷ bs) = before_end b (without_ends bs)

-- an option, as an error tells it that refuses it
abbrev pub unsupported : Word → List ℕ
unsupported option = told (without_ends (c_string option))

abbrev pub unknown : Word → List Word → List ℕ
unknown name args = codes "'" ++ told (take 128 name) ++ codes "', with args beginning with: " ++ args_told [] args
