-- What the lines of a schedule say together.
use Rattle.std.specs.Prelude.{◌≡◌, ℕ, ◌+◌, ◌==◌, Bool, true, false, List, [], ◌∷◌, ◌++◌, Option, Some, None, Result, Ok, Err, fold, map, if◌then◌else◌, ⊤, codes}
use Rattle.std.specs.Fmt.{decimal}
use Rattle.std.specs.List.{onto_first}
use Rattle.std.specs.Option.{ok_or}
use Rattle.std.specs.Ordering.{nat_cmp}
use Rattle.raft_state.specs.declared.membership.Members.{Members}
use Rattle.raft_state.specs.Members.{members_of}
use Rattle.raft_store.specs.raft_command.Config.{default_config}
use Rattle.raft_store.specs.raft_command.declared.config.EngineConfig.{EngineConfig}
use Rattle.raft_schedule.specs.declared.schedule.Language.{Language}
use Rattle.raft_schedule.specs.declared.schedule.Language.TheVariants.{First, Second}
use Rattle.raft_schedule.specs.declared.schedule.Place.{Place}
use Rattle.raft_schedule.specs.declared.schedule.Place.TheVariants as place
use Rattle.raft_schedule.specs.declared.schedule.Schedule.{Schedule}
use Rattle.raft_schedule.specs.declared.schedule.ScheduleError.{ScheduleError}
use Rattle.raft_schedule.specs.declared.schedule.ScheduleError.TheVariants.{BadLine, OutOfMemory}
use Rattle.raft_schedule.specs.declared.schedule.Setting.{Setting}
use Rattle.raft_schedule.specs.declared.schedule.Setting.TheVariants.{Lease, Policy, Keep, Batch, Payload}
use Rattle.raft_schedule.specs.declared.step.Numbered.{Numbered}
use Rattle.raft_schedule.specs.Line.{Statement, Speaks, Nodes, Voters, Learners, Sets, Does, is, words, meaning}

infixl 10 ◌>>=◌
abbrev pub ◌>>=◌ : {A B : Type 0} → Result A ℕ → (A → Result B ℕ) → Result B ℕ
(Ok x) >>= f = f x
(Err n) >>= f = Err n

-- the lines: each ends with LF, and the last may lack it
abbrev pub lines : List ℕ → List (List ℕ)
lines [] = []
lines (b ∷ text) = if b == 10 then [] ∷ lines text else onto_first b (lines text)

-- a line is empty, or begins with `#`
abbrev pub is_skipped : List ℕ → Bool
is_skipped [] = true
is_skipped (b ∷ line) = b == 35

-- `language 2` in place of the first statement: the lines behind it are of the second language
abbrev pub begins_second : Language → Place → List ℕ → Bool
begins_second First place.Start line = is line (codes "language 2")
begins_second language p line = false

-- the nodes come first, then the groups of voters, then the learners, once, then the settings, then the steps
abbrev pub stands : Place → Statement → Bool
stands p Speaks = false
stands place.Start (Nodes ids) = true
stands place.Start s = false
stands p (Nodes ids) = false
stands place.Voters s = true
stands place.Learners (Voters ids) = false
stands place.Learners (Learners ids) = false
stands place.Learners s = true
stands place.Settings (Voters ids) = false
stands place.Settings (Learners ids) = false
stands place.Settings s = true
stands place.Events (Does step) = true
stands place.Events s = false

-- the place after a statement
abbrev pub behind : Statement → Place
behind Speaks = place.Start
behind (Nodes ids) = place.Voters
behind (Voters ids) = place.Voters
behind (Learners ids) = place.Learners
behind (Sets setting) = place.Settings
behind (Does step) = place.Events

-- what the words of a line say, if that may come in this place
abbrev pub standing : Place → Option Statement → Option Statement
standing p None = None
standing p (Some s) = if stands p s then Some s else None

abbrev pub said_at : Language → Place → List (List ℕ) → Option Statement
said_at language p words = standing p (meaning language words)

-- by the last line there must be nodes
abbrev pub ended : ℕ → Place → Result (List (ℕ × Statement)) ℕ
ended n place.Start = Err n
ended n p = Ok []

-- what the lines from number n on say, each with its number; or the number of the first that is wrong in its place
unfoldable pub statements : ℕ → Language → Place → List (List ℕ) → Result (List (ℕ × Statement)) ℕ
statements n language p [] = ended n p
statements n language p (line ∷ rest) =
    if is_skipped line then statements (n + 1) language p rest
    else if begins_second language p line then (do
      others ← statements (n + 1) Second p rest
      Ok ((n, Speaks) ∷ others))
    else (do
      first ← ok_or (said_at language p (words language line)) n
      others ← statements (n + 1) language (behind first) rest
      Ok ((n, first) ∷ others))

-- what lines say together
pub record Said : Type 0 where
  pub language : Language
  pub nodes : List ℕ
  pub groups : List (List ℕ)
  pub learners : List ℕ
  pub settings : EngineConfig ℕ
  pub steps : List Numbered

abbrev pub nothing : Said
nothing = record { language = First; nodes = []; groups = []; learners = []; settings = default_config 0; steps = [] }

-- the settings with one of them set
abbrev pub with_setting : EngineConfig ℕ → Setting → EngineConfig ℕ
with_setting c (Lease n) = record c { timer_config = record c.timer_config { leader_lease = n } }
with_setting c (Policy p) = record c { snapshot_policy = p }
with_setting c (Keep n) = record c { max_in_snapshot_log_to_keep = n }
with_setting c (Batch n) = record c { purge_batch_size = n }
with_setting c (Payload n) = record c { max_payload_entries = n }

-- what was said, with one more statement, of line n
abbrev pub with_statement : Said → ℕ → Statement → Said
with_statement d n Speaks = record d { language = Second }
with_statement d n (Nodes ids) = record d { nodes = ids }
with_statement d n (Voters ids) = record d { groups = d.groups ++ ids ∷ [] }
with_statement d n (Learners ids) = record d { learners = ids }
with_statement d n (Sets setting) = record d { settings = with_setting d.settings setting }
with_statement d n (Does step) = record d { steps = d.steps ++ record { line = n; step = step } ∷ [] }

abbrev pub and_said : Said → ℕ × Statement → Said
and_said d s = with_statement d s.0 s.1

-- what lines say together, or the number of the first that is wrong in its place; they begin in the first language
abbrev pub said_by : List (List ℕ) → Result Said ℕ
said_by lines = do
  all ← statements 1 First place.Start lines
  Ok (fold and_said nothing all)

-- a schedule, as a value
pub record Plan : Type 0 where
  pub language : Language
  pub nodes : List ℕ
  pub membership : Members ℕ (Unit {0})
  pub settings : EngineConfig ℕ
  pub steps : List Numbered

-- a node has no data
abbrev pub without_data : ℕ → ℕ × Unit {0}
without_data id = (id, record {})

-- the schedule that was said: a learner is a node of the membership
abbrev pub plan_of : Said → Plan
plan_of d = record { language = d.language; nodes = d.nodes; membership = members_of nat_cmp (record {}) d.groups (map without_data d.learners); settings = d.settings; steps = d.steps }

-- the schedule of a text, or the number of its first line that is wrong in its place
abbrev pub schedule_of : List ℕ → Result Plan ℕ
schedule_of text = do
  d ← said_by (lines text)
  Ok (plan_of d)

abbrev pub plan : Schedule → Plan
plan s = record { language = s.language; nodes = s.nodes.items; membership = s.membership; settings = s.settings; steps = s.steps.items }

-- answers the schedule of a text, or its first line that is wrong in its place, or is out of memory
abbrev pub Parses : List ℕ → Result Schedule ScheduleError → Type 0
Parses text (Ok s) = schedule_of text ≡ Ok (plan s)
Parses text (Err (BadLine n)) = schedule_of text ≡ Err n
Parses text (Err OutOfMemory) = ⊤

-- why a text is not a schedule, in words
abbrev pub error_text : ScheduleError → List ℕ
error_text (BadLine n) = codes "line " ++ decimal n ++ codes ": bad line"
error_text OutOfMemory = codes "W5"
