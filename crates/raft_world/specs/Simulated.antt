-- What a simulation answers and writes.
use Rattle.std.specs.Prelude.{◌≡◌, ℕ, ◌+◌, ◌<◌, ◌==◌, ◌⊎◌, Bool, true, false, List, [], ◌++◌, take, length, Option, None, Some, IfSome, Result, Ok, Err, OnOk, ⊤, codes}
use Rattle.std.specs.Io.KnownBytes.{Appends, Consumes}
use Rattle.std.specs.List.{count_by}
use Rattle.std.specs.Str.{IsUtf8}
use Rattle.std.specs.Str.Lossy.{utf8_valid_len}
use Rattle.raft_schedule.specs.Text.{Plan, plan, schedule_of}
use Rattle.raft_schedule.specs.Text as schedule
use Rattle.raft_schedule.specs.declared.schedule.Schedule.{Schedule}
use Rattle.raft_schedule.specs.declared.schedule.ScheduleError.{ScheduleError}
use Rattle.raft_schedule.specs.declared.schedule.ScheduleError.TheVariants as refused
use Rattle.raft_node.specs.declared.given.Given.{Given}
use Rattle.raft_world.specs.declared.error.WorldError.{WorldError}
use Rattle.raft_world.specs.declared.error.WorldError.TheVariants.{OutOfMemory}
use Rattle.raft_world.specs.declared.streams.Failure.{Failure}
use Rattle.raft_world.specs.declared.streams.Failure.TheVariants as failure
use Rattle.raft_world.specs.declared.streams.Ran.{Ran}
use Rattle.raft_world.specs.Expected.{unmet_text}
use Rattle.raft_world.specs.Limits as world
use Rattle.raft_world.specs.Printed.{IsText}
use Rattle.raft_world.specs.Steps.{RunsSteps}
use Rattle.raft_world.specs.Worlds.{WorldView, Makes}

-- the line, counted from 1, of the first byte that is not UTF-8
abbrev pub wrong_line : List ℕ → ℕ
wrong_line bytes = 1 + count_by (λ b. b == 10) (take (utf8_valid_len bytes) bytes)

-- bytes are the text of a schedule, or this line of theirs is the first bad one, or not UTF-8
abbrev pub Says : List ℕ → Result Plan ℕ → Type 0
Says bytes r = (IsUtf8 bytes × (schedule_of bytes ≡ r)) ⊎ ((IsUtf8 bytes → ⊥) × (r ≡ Err (wrong_line bytes)))

-- what is answered for bytes, unless out of memory
abbrev pub Reads : List ℕ → Result Schedule ScheduleError → Type 0
Reads bytes (Ok s) = Says bytes (Ok (plan s))
Reads bytes (Err (refused.BadLine n)) = Says bytes (Err n)
Reads bytes (Err refused.OutOfMemory) = ⊤

-- what a schedule's world is made of
abbrev pub given_of : Plan → Given
given_of p = record { ids = p.nodes; membership = p.membership; settings = p.settings }

-- the steps of a schedule are taken in a world
abbrev pub Comes : WorldView → Plan → Result Ran WorldError → WorldView → Type 0
Comes world p (Ok ran) after = (ran.language ≡ p.language) × RunsSteps world p.steps (Ok (ran.report, ran.unmet)) after
Comes world p (Err e) after = RunsSteps world p.steps (Err e) after

-- the outcome of a schedule: no world can be made, or its steps are taken in a new one
abbrev pub ComesOf : Plan → Result Ran WorldError → Type 0
ComesOf p r =
    ((e : WorldError) × Makes (given_of p) (Err e) × (r ≡ Err e))
    ⊎ ((world : WorldView) × (after : WorldView) × Makes (given_of p) (Ok world) × Comes world p r after)

-- all bytes that a reader gives, if they are known
abbrev pub IsInput : Option (List ℕ) → List ℕ → Type 0
IsInput known bytes = IfSome known (λ xs. bytes ≡ xs)

-- a reader's next bytes are appended to those before
abbrev pub Takes : Option (List ℕ) → Option (List ℕ) → List ℕ → List ℕ → Type 0
Takes known rest old new = (given : List ℕ) × (new ≡ old ++ given) × Consumes known rest given

-- the input is a schedule with this outcome
abbrev pub Runs : Option (List ℕ) → Result Ran WorldError → Type 0
Runs known r = (bytes : List ℕ) × (p : Plan) × IsInput known bytes × Says bytes (Ok p) × ComesOf p r

-- why the input has no report
abbrev pub FailsBy : Option (List ℕ) → Failure → Type 0
FailsBy known (failure.Schedule (refused.BadLine n)) = (bytes : List ℕ) × IsInput known bytes × Says bytes (Err n)
FailsBy known (failure.Schedule refused.OutOfMemory) = ⊤
FailsBy known (failure.World OutOfMemory) = ⊤
FailsBy known (failure.World e) = Runs known (Err e)
FailsBy known failure.Read = ⊤
FailsBy known failure.Write = ⊥
FailsBy known (failure.Unmet u) = ⊥

-- whether the last read failed, before and after: it did exactly where that is answered; memory may run out before the first read
abbrev pub ReadsBy : {X : Type 0} → Bool → Bool → Result X Failure → Type 0
ReadsBy before after (Ok x) = after ≡ false
ReadsBy before after (Err failure.Read) = after ≡ true
ReadsBy before after (Err failure.Write) = after ≡ false
ReadsBy before after (Err (failure.Unmet u)) = after ≡ false
ReadsBy before after (Err (failure.Schedule e)) = after ≡ false
ReadsBy before after (Err (failure.World e)) = (after ≡ before) ⊎ (after ≡ false)

-- a beginning of a text is written, and then a write failed
abbrev pub Begins : Bool → Option (List ℕ) → Option (List ℕ) → List ℕ → Type 0
Begins failed old new text = (failed ≡ true) × ((n : ℕ) × (n < length text) × Appends old new (take n text))

-- the report is written, and an expectation that wasn't met is answered; or a beginning of it is; or it found no memory, and the
-- output is untouched
abbrev pub Writes : Ran → Result (Unit {0}) Failure → Type 0 → Bool → Option (List ℕ) → Option (List ℕ) → Type 0
Writes ran (Ok u) untouched failed old new = (ran.unmet ≡ None) × ((text : List ℕ) × IsText ran.language ran.report text × Appends old new text)
Writes ran (Err (failure.Unmet u)) untouched failed old new = (ran.unmet ≡ Some u) × ((text : List ℕ) × IsText ran.language ran.report text × Appends old new text)
Writes ran (Err failure.Write) untouched failed old new = (text : List ℕ) × IsText ran.language ran.report text × Begins failed old new text
Writes ran (Err e) untouched failed old new = (e ≡ failure.World OutOfMemory) × untouched

-- the report of the input's run is written, or begun; or there is none, and the output is untouched
abbrev pub Answers : Option (List ℕ) → Result (Unit {0}) Failure → Type 0 → Bool → Option (List ℕ) → Option (List ℕ) → Type 0
Answers known answer untouched failed old new =
    ((ran : Ran) × Runs known (Ok ran) × Writes ran answer untouched failed old new)
    ⊎ ((e : Failure) × (answer ≡ Err e) × FailsBy known e × untouched)

-- the exit status
abbrev pub failure_status : Failure → ℕ
failure_status (failure.Schedule e) = 1
failure_status (failure.World e) = 1
failure_status failure.Read = 2
failure_status failure.Write = 2
failure_status (failure.Unmet u) = 3

abbrev pub status_of : Result (Unit {0}) Failure → ℕ
status_of (Ok u) = 0
status_of (Err e) = failure_status e

-- a line for a failure, else nothing
abbrev pub failure_text : Failure → List ℕ
failure_text (failure.Schedule e) = schedule.error_text e ++ codes "\n"
failure_text (failure.World e) = world.error_text e ++ codes "\n"
failure_text failure.Read = codes "read failed\n"
failure_text failure.Write = codes "write failed\n"
failure_text (failure.Unmet u) = unmet_text u.line u.expected u.found ++ codes "\n"

abbrev pub text_of : Result (Unit {0}) Failure → List ℕ
text_of (Ok u) = []
text_of (Err e) = failure_text e

-- an exit status, what is written to the output, and to the errors unless that write failed; by the input's bytes, by whether the last read,
-- before and after, and the last write of the output failed, and by whether the output is untouched
abbrev pub Simulates : {E : Type 0} → Option (List ℕ) → Bool → Bool → ℕ → Type 0 → Bool → Option (List ℕ) → Option (List ℕ) → Result (Unit {0}) E → Option (List ℕ) → Option (List ℕ) → Type 0
Simulates known before after status untouched failed old new told old_errors new_errors =
    (answer : Result (Unit {0}) Failure) × (status ≡ status_of answer) × ReadsBy before after answer × Answers known answer untouched failed old new
    × OnOk told (Appends old_errors new_errors (text_of answer))

-- an exit status by the input's bytes, when nothing is known of the streams
abbrev pub StatusOf : Option (List ℕ) → ℕ → Type 0
StatusOf known status = (answer : Result (Unit {0}) Failure) × (status ≡ status_of answer) × ((failed : Bool) × Answers known answer ⊤ failed None None)

-- a failed read, or out of memory for it
abbrev pub IsReadFailure : Failure → Type 0
IsReadFailure (failure.World OutOfMemory) = ⊤
IsReadFailure failure.Read = ⊤
IsReadFailure _ = ⊥
