-- Runs of steps: the events that they are, and the first expectation that isn't met.
use Rattle.std.specs.Prelude.{◌≡◌, ◌≢◌, ◌<◌, ℕ, zero, suc, false, List, [], ◌∷◌, ◌++◌, length, take, Option, Some, None, Result, Ok, Err, if◌then◌else◌, unwrap_or}
use Rattle.raft_store.specs.declared.entry.Entry.{Entry}
use Rattle.raft_schedule.specs.declared.event.Event.{Event}
use Rattle.raft_schedule.specs.declared.event.EventKind.TheVariants.{Deliver}
use Rattle.raft_schedule.specs.declared.step.Numbered.{Numbered}
use Rattle.raft_schedule.specs.declared.step.Step.{Step}
use Rattle.raft_schedule.specs.declared.step.Step.TheVariants.{Happens, Next, All, Expects}
use Rattle.raft_node.specs.declared.given.Given.{Given}
use Rattle.raft_node.specs.Runs.{History, run, whole_logs, with_event}
use Rattle.raft_world.specs.declared.error.WorldError.{WorldError}
use Rattle.raft_world.specs.declared.error.WorldError.TheVariants.{LimitReached, OutOfMemory}
use Rattle.raft_world.specs.declared.expected.Unmet.{Unmet}
use Rattle.raft_world.specs.Expected.{found_for, is_met}
use Rattle.raft_world.specs.Reported.{Reported}
use Rattle.raft_world.specs.Undelivered.{oldest}
use Rattle.raft_world.specs.Worlds.{IsSpentOf, RunsAll, Unhindered, WorldView, refusals_of_apply}

-- an event that delivers a message at its node's last moment
abbrev pub delivery : ℕ → Event
delivery k = record { kind = Deliver k; at = None; stop = None }

-- what is expected at a line and isn't there, with what is
abbrev pub unmet_by : ℕ → Step → History (List Entry) → Option Unmet
unmet_by line (Expects e) t = if is_met e t then None else Some (record { line = line; expected = e; found = found_for e t })
unmet_by line _ t = None

module _ (given : Given) where
  -- the oldest undelivered message is delivered, until there is none, at most n times
  unfoldable pub deliveries : ℕ → History (List Entry) → List Event
  deliveries zero t = []
  deliveries (suc n) t = elim (oldest None t) [ None ↦ [] | Some k ↦ delivery k ∷ deliveries n (with_event whole_logs given t (delivery k)) ]

  -- the events that a step is: a delivery on a link without an undelivered message names message 0, which there is not
  abbrev pub events_of_step : Step → History (List Entry) → List Event
  events_of_step (Happens e) t = e ∷ []
  events_of_step (Next link at stop) t = record { kind = Deliver (unwrap_or (oldest (Some link) t) 0); at = at; stop = stop } ∷ []
  events_of_step (All n) t = deliveries n t
  events_of_step (Expects e) t = []

  -- the events of steps, up to the first expectation that isn't met
  unfoldable pub events_of_steps : List Numbered → History (List Entry) → List Event
  events_of_steps [] t = []
  events_of_steps (s ∷ ss) t = elim (unmet_by s.line s.step t) [
    | Some u ↦ []
    | None ↦ (let es = events_of_step s.step t in es ++ events_of_steps ss (run whole_logs given es t))
  ]

  -- that expectation
  unfoldable pub first_unmet : List Numbered → History (List Entry) → Option Unmet
  first_unmet [] t = None
  first_unmet (s ∷ ss) t = elim (unmet_by s.line s.step t) [ Some u ↦ Some u | None ↦ first_unmet ss (run whole_logs given (events_of_step s.step t) t) ]

-- all of the events were run
abbrev pub HasRun : WorldView → List Event → WorldView → Type 0
HasRun old es new = (old.spent ≡ false) × Unhindered old es (length es) × (new ≡ record old { history = run whole_logs old.given es old.history })

-- all of the events were run, or a limit or the memory stopped one of them
abbrev pub RunsTo : WorldView → List Event → Result (Unit {0}) WorldError → WorldView → Type 0
RunsTo old es (Ok u) new = HasRun old es new
RunsTo old es (Err LimitReached) new = RunsAll old es (Err LimitReached) new
RunsTo old es (Err OutOfMemory) new =
    (k : ℕ) × (k < length es) × Unhindered old es k × (refusals_of_apply (record old { history = run whole_logs old.given (take k es) old.history }) ≢ Some LimitReached) × IsSpentOf old new
RunsTo old es (Err _) new = ⊥

-- what a step expects isn't there; out of memory the world is spent
abbrev pub UnmetIs : WorldView → Numbered → Result (Option Unmet) WorldError → WorldView → Type 0
UnmetIs old s (Ok u) new = (u ≡ unmet_by s.line s.step old.history) × (new ≡ old)
UnmetIs old s (Err e) new = (e ≡ OutOfMemory) × (unmet_by s.line s.step old.history ≢ None) × IsSpentOf old new

-- the events of the steps were run, and this is the first expectation that isn't met
abbrev pub TakesSteps : WorldView → List Numbered → Result (Option Unmet) WorldError → WorldView → Type 0
TakesSteps old ss (Ok u) new = HasRun old (events_of_steps old.given ss old.history) new × (u ≡ first_unmet old.given ss old.history)
TakesSteps old ss (Err e) new = RunsAll old (events_of_steps old.given ss old.history) (Err e) new

-- what `run_steps` does: it runs the events of the steps, and answers their first expectation that isn't met
abbrev pub RunsSteps : WorldView → List Numbered → Result (Reported × Option Unmet) WorldError → WorldView → Type 0
RunsSteps old ss (Ok r) new = RunsAll old (events_of_steps old.given ss old.history) (Ok r.0) new × (r.1 ≡ first_unmet old.given ss old.history)
RunsSteps old ss (Err e) new = RunsAll old (events_of_steps old.given ss old.history) (Err e) new
