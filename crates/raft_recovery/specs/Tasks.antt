-- What the words of a command line ask for.
use Rattle.std.specs.Prelude.{ℕ, ◌≡◌, ◌++◌, List, [], ◌∷◌, None, Option, Some, Result, Ok, Err, ⊤, codes}
use Rattle.std.specs.Option.{option_and_then, option_map}
use Rattle.std.specs.String.{string_bytes}
use Rattle.raft_store.specs.declared.entry.Value.TheVariants.{Number}
use Rattle.raft_schedule.specs.Line.{number, numbers}
use Rattle.raft_recovery.specs.declared.words.WordsError.{WordsError}
use Rattle.raft_recovery.specs.declared.words.WordsError.TheVariants as errors
use Rattle.raft_recovery.specs.Simulated.{StatusOf}

-- a number, and the ids of nodes: each is a number as schedules have them
abbrev pub asked : List (List ℕ) → Option (ℕ × List ℕ)
asked [] = None
asked (word ∷ rest) = option_and_then (λ n. option_map (λ ids. (n, ids)) (numbers rest)) (number word)

-- the answer, seen by view, is this; or there is none, unless out of memory
abbrev pub Gives : {A B : Type 0} → (A → B) → Result A WordsError → Option B → Type 0
Gives view (Ok x) o = o ≡ Some (view x)
Gives view (Err errors.OutOfMemory) o = ⊤
Gives view (Err _) o = o ≡ None

-- why words ask for nothing, as text
abbrev pub words_text : WordsError → List ℕ
words_text errors.NoWords = codes "no number is given"
words_text (errors.NoNumber word) = codes "\"" ++ string_bytes word ++ codes "\" is no number: numbers are decimal, without sign or leading zeros, below 2^64"
words_text errors.OutOfMemory = codes "W5"

-- the status is that of what is asked for, or 1 if that is nothing
abbrev pub StatusOfTask : Option (List ℕ) → Option (ℕ × List ℕ) → ℕ → Type 0
StatusOfTask known None status = status ≡ 1
StatusOfTask known (Some task) status = StatusOf known task.1 (Number task.0) status

-- of what words ask for
abbrev pub StatusOfWords : Option (List ℕ) → List (List ℕ) → ℕ → Type 0
StatusOfWords known words status = StatusOfTask known (asked words) status
