-- What the functions that read lines answer.
use Rattle.std.specs.Prelude.{◌≡◌, ℕ, List, map, Option, Some, None, Result, Ok, Err, if◌then◌else◌, ⊤}
use Rattle.std.specs.Borrow.{Bor}
use Rattle.hex.specs.declared.error.FromHexError.{FromHexError}
use Rattle.hex.specs.declared.error.FromHexError.TheVariants as hex
use Rattle.raft_schedule.specs.declared.schedule.Draft.{Draft}
use Rattle.raft_schedule.specs.declared.schedule.Line.{Line}
use Rattle.raft_schedule.specs.declared.schedule.Line.TheVariants as lines
use Rattle.raft_schedule.specs.declared.schedule.LineError.{LineError}
use Rattle.raft_schedule.specs.declared.schedule.LineError.TheVariants as errors
use Rattle.raft_schedule.specs.declared.schedule.Language.{Language}
use Rattle.raft_schedule.specs.declared.schedule.Language.TheVariants.{Second}
use Rattle.raft_schedule.specs.declared.schedule.Place.{Place}
use Rattle.raft_schedule.specs.declared.schedule.ScheduleError.{ScheduleError}
use Rattle.raft_schedule.specs.declared.schedule.ScheduleError.TheVariants.{BadLine, OutOfMemory}
use Rattle.raft_schedule.specs.Line.{Statement, Speaks, Nodes, Voters, Learners, Sets, Does, words}
use Rattle.raft_schedule.specs.Text.{Said, and_said, is_skipped, begins_second, said_at, behind}

-- the bytes of words
abbrev pub texts : List (Bor (List ℕ)) → List (List ℕ)
texts words = map (λ w. w.now) words

-- the bytes of the words before what was split off
abbrev pub split_texts : Bor (List (Bor (List ℕ))) × Option ℕ → List (List ℕ) × Option ℕ
split_texts split = (texts split.0.now, split.1)

-- what a line says, as a value
abbrev pub said : Line → Statement
said (lines.Nodes ids) = Nodes ids.items
said (lines.Voters ids) = Voters ids.items
said (lines.Learners ids) = Learners ids.items
said (lines.Sets setting) = Sets setting
said (lines.Does step) = Does step

-- what the lines so far say
abbrev pub so_far : Draft → Said
so_far d = record { language = d.language; nodes = d.nodes.items; groups = map (λ group. group.items) d.groups.items; learners = d.learners.items; settings = d.settings; steps = d.steps.items }

abbrev pub is_out_of_memory : LineError → Type 0
is_out_of_memory e = e ≡ errors.OutOfMemory

-- fails only if there is nothing to read, or out of memory
abbrev pub Fails : {B : Type 0} → LineError → Option B → Type 0
Fails errors.OutOfMemory o = ⊤
Fails errors.Bad o = o ≡ None

-- why a text isn't that of bytes, as the kit's `hex` tells it
abbrev pub hex_error : FromHexError → LineError
hex_error hex.OutOfMemory = errors.OutOfMemory
hex_error _ = errors.Bad

-- the answer, seen by view, is this, unless out of memory
abbrev pub Gives : {A B : Type 0} → (A → B) → Result A LineError → Option B → Type 0
Gives view (Ok x) o = o ≡ Some (view x)
Gives view (Err e) o = Fails e o

-- a draft's language, where it stands, and what it says
abbrev pub state : Draft → Language × Place × Said
state d = (d.language, d.place, so_far d)

-- the same with one more statement, of line n
abbrev pub with_said : Language → Said → ℕ → Option Statement → Option (Language × Place × Said)
with_said language d n None = None
with_said language d n (Some s) = Some (language, behind s, and_said d (n, s))

-- line n in a language and a place, after what was said
abbrev pub line_after : ℕ → List ℕ → Language × Place × Said → Option (Language × Place × Said)
line_after n line d =
    if is_skipped line then Some d
    else if begins_second d.0 d.1 line then Some (Second, d.1, and_said d.2 (n, Speaks))
    else with_said d.0 d.2 n (said_at d.0 d.1 (words d.0 line))

abbrev pub Takes : ℕ → List ℕ → Draft → Draft → Result (Unit {0}) LineError → Type 0
Takes n line old new result = Gives (λ _. state new) result (line_after n line (state old))

-- answers what lines say, or which one is wrong in its place, unless out of memory
abbrev pub Reads : Result Said ℕ → Result Draft ScheduleError → Type 0
Reads by_lines (Ok d) = by_lines ≡ Ok (so_far d)
Reads by_lines (Err (BadLine n)) = by_lines ≡ Err n
Reads by_lines (Err OutOfMemory) = ⊤
