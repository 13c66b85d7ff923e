-- A `World` as contracts see it, and what its calls answer.
use Rattle.std.specs.Prelude.{ℕ, ◌≡◌, ◌≢◌, ◌<◌, ◌≤◌, All, Bool, true, false, List, length, take, Option, Some, None, Result, Ok, Err, if◌then◌else◌, nat_lt}
use Rattle.std.specs.Ordering.{nat_cmp}
use Rattle.raft_state.specs.Sorted.{IsSound}
use Rattle.raft_store.specs.declared.entry.Entry.{Entry}
use Rattle.raft_store.specs.Types.{WorldStore, EngineView}
use Rattle.raft_world.specs.declared.error.WorldError.{WorldError}
use Rattle.raft_world.specs.declared.error.WorldError.TheVariants.{LimitReached, OutOfMemory}
use Rattle.raft_schedule.specs.declared.event.Event.{Event}
use Rattle.raft_schedule.specs.declared.event.Outcome.{Outcome}
use Rattle.raft_schedule.specs.declared.event.AppliedEvent.{AppliedEvent}
use Rattle.raft_node.specs.Events.{happens}
use Rattle.raft_world.specs.Agreed.{Checks}
use Rattle.raft_world.specs.declared.agreement.Agreement.{Agreement}
use Rattle.raft_world.specs.declared.agreement.Agreement.TheVariants.{Agree}
use Rattle.raft_world.specs.Limits.{refusals_of_new}
use Rattle.raft_node.specs.Net.{node_at}
use Rattle.raft_world.specs.Reported.{Reported}
use Rattle.raft_node.specs.declared.given.Given.{Given}
use Rattle.raft_node.specs.Runs.{History, start, with_event, run, events_of, whole_logs}
use Rattle.raft_node.specs.Safety.{AllAgree, IsUnrefused, entries_of}
use Rattle.raft_node.specs.WellFormed.{IsWellFormed}
use Rattle.raft_node.specs.Work.{weight}

-- what it is made of, its events with their outcomes and the world after them, and whether it ran out of memory
pub record WorldView : Type 0 where
  pub given : Given
  pub history : History (List Entry)
  pub spent : Bool

-- the events of a world so far, and what they make of the empty one
abbrev pub events_in : WorldView → List Event
events_in w = events_of w.history.past

abbrev pub run_in : WorldView → History (List Entry)
run_in w = run whole_logs w.given (events_in w) (start w.given)

-- what a world is made of is well-formed, and its first membership sound, as each `Membership` is
pub record IsMade (given : Given) : Type 0 where
  pub well_formed : IsWellFormed given
  pub sound : IsSound nat_cmp given.membership.groups given.membership.nodes

-- so is a world; unless out of memory, it is what its events make of the empty one
pub record IsWorldOfRun (w : WorldView) : Type 0 where
  pub made : IsMade w.given
  pub is : w.spent ≡ false → w.history ≡ run_in w

-- a new world
abbrev pub new_world : Given → WorldView
new_world given = record { given = given; history = start given; spent = false }

-- what `World::new` answers
abbrev pub Makes : Given → Result WorldView WorldError → Type 0
Makes given (Ok w) = (refusals_of_new given.ids given.membership.groups ≡ None) × (w ≡ new_world given)
Makes given (Err OutOfMemory) = refusals_of_new given.ids given.membership.groups ≡ None
Makes given (Err e) = refusals_of_new given.ids given.membership.groups ≡ Some e

-- why an event is refused: out of memory, for good; then the limits
abbrev pub refusals_of_apply : WorldView → Option WorldError
refusals_of_apply w =
    if w.spent then Some OutOfMemory
    else if nat_lt 99999 (length w.history.past) then Some LimitReached
    else if nat_lt 999936 (length w.history.net.records.bag) then Some LimitReached
    else None

-- a world that ran out of memory
abbrev pub IsSpentOf : WorldView → WorldView → Type 0
IsSpentOf old new = (new.given ≡ old.given) × (new.spent ≡ true)

-- what `apply` does: one step of the run; or it refuses the event and changes nothing; or it is out of memory
abbrev pub Applies : WorldView → Event → Result Outcome WorldError → WorldView → Type 0
Applies old e (Ok o) new =
    (refusals_of_apply old ≡ None) × (o ≡ (happens whole_logs weight old.given e old.history.net).0) × (new ≡ record old { history = with_event whole_logs old.given old.history e })
Applies old e (Err LimitReached) new = (refusals_of_apply old ≡ Some LimitReached) × (new ≡ old)
Applies old e (Err OutOfMemory) new = (refusals_of_apply old ≢ Some LimitReached) × IsSpentOf old new
Applies old e (Err _) new = ⊥

-- the report of a world
abbrev pub reported : History (List Entry) → Reported
reported t = record {
  past = t.past;
  executed = t.net.records.executed;
  installed = t.net.records.installed;
  decided = t.net.records.decided;
  established = t.net.records.established;
  answers = t.net.records.answers;
  messages = t.net.records.bag;
}

-- a report's executed commits and installed snapshots agree, and so each check of it answers
abbrev pub ReportAgrees : Reported → Type 0
ReportAgrees r = AllAgree (entries_of r.executed r.installed) × ((a : Agreement) → Checks (entries_of r.executed r.installed) a → a ≡ Agree)

-- no event was refused because a leader's request doesn't fit
abbrev pub AllUnrefused : List AppliedEvent → Type 0
AllUnrefused past = All (λ p. IsUnrefused p.outcome) past

-- neither a limit nor memory stopped the first k of these events
abbrev pub Unhindered : WorldView → List Event → ℕ → Type 0
Unhindered old es k = (j : ℕ) → j < k → refusals_of_apply (record old { history = run whole_logs old.given (take j es) old.history }) ≡ None

-- what `run_schedule` does: the run of all events, or of those before the first that a limit refuses; or out of memory, at an
-- event that no limit refuses, or once all were applied
abbrev pub RunsAll : WorldView → List Event → Result Reported WorldError → WorldView → Type 0
RunsAll old es (Ok r) new = (old.spent ≡ false) × Unhindered old es (length es) × (new ≡ record old { history = run whole_logs old.given es old.history }) × (r ≡ reported new.history)
RunsAll old es (Err LimitReached) new =
    (k : ℕ) × (k < length es) × Unhindered old es k × (new ≡ record old { history = run whole_logs old.given (take k es) old.history })
    × (refusals_of_apply new ≡ Some LimitReached)
RunsAll old es (Err OutOfMemory) new =
    (k : ℕ) × (k ≤ length es) × Unhindered old es k
    × (k < length es → refusals_of_apply (record old { history = run whole_logs old.given (take k es) old.history }) ≢ Some LimitReached) × IsSpentOf old new
RunsAll old es (Err _) new = ⊥

-- the store and the engine of a node
abbrev pub store_at : WorldView → ℕ → Option WorldStore
store_at w id = elim (node_at w.history.net.nodes id) [ None ↦ None | Some n ↦ Some n.store ]

abbrev pub engine_at : WorldView → ℕ → Option EngineView
engine_at w id = elim (node_at w.history.net.nodes id) [ None ↦ None | Some n ↦ n.engine ]
