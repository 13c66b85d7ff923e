-- The options of SCAN (Redis, SCAN, and scanGenericCommand).
use Rattle.std.specs.Prelude.{ℕ, zero, suc, true, List, [], ◌∷◌, Option, Some, None, Result, Ok, Err, ℤ, pos, negsuc, codes, if◌then◌else◌}
use Rattle.std.specs.Option.{ok_or}
use Rattle.std.specs.Str.{bytes_eq}
use Rattle.raft_machine.specs.Numbers.{natural_of}
use Rattle.raft_machine.specs.declared.command.ScanOptions.{ScanOptions}
use Rattle.raft_requests.specs.declared.refusal.Refusal.{Refusal}
use Rattle.raft_requests.specs.declared.refusal.Refusal.TheVariants.{Syntax, InvalidCursor}
use Rattle.raft_requests.specs.Refusals.{◌>>=◌}
use Rattle.raft_requests.specs.Options.{is}
use Rattle.raft_requests.specs.Words.{Word, number}

-- a cursor has one text, as SCAN answers it
abbrev pub cursor : Word → Result ℕ Refusal
cursor w = ok_or (natural_of w) InvalidCursor

-- at least one key
abbrev pub positive : ℤ → Result ℕ Refusal
positive (pos zero) = Err Syntax
positive (pos (suc n)) = Ok (suc n)
positive (negsuc n) = Err Syntax

abbrev pub count : Word → Result ℕ Refusal
count w = number w >>= positive

-- `*` is no pattern
abbrev pub pattern : Word → Option Word
pattern w = if bytes_eq w (codes "*") then None else Some w

-- 10 keys
abbrev pub unsaid : ℕ → ScanOptions
unsaid cursor = record { cursor = cursor; count = 10; pattern = None; of_strings = true }

abbrev pub counted : ScanOptions → ℕ → ScanOptions
counted o n = record { cursor = o.cursor; count = n; pattern = o.pattern; of_strings = o.of_strings }

-- what was said, and an option: its name and what follows it
unfoldable pub with_option : ScanOptions → Word → Word → Result ScanOptions Refusal
with_option o name w =
    if is (codes "count") name then (count w >>= λ n. Ok (counted o n))
    else if is (codes "match") name then Ok (record { cursor = o.cursor; count = o.count; pattern = pattern w; of_strings = o.of_strings })
    else if is (codes "type") name then Ok (record { cursor = o.cursor; count = o.count; pattern = o.pattern; of_strings = is (codes "string") w })
    else Err Syntax

-- what was said, and what words spell
abbrev pub scan_options : ScanOptions → List Word → Result ScanOptions Refusal
scan_options o [] = Ok o
scan_options o (name ∷ []) = Err Syntax
scan_options o (name ∷ w ∷ ws) = with_option o name w >>= λ p. scan_options p ws
