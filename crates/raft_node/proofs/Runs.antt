-- A run with one more event.
use Rattle.std.specs.Prelude.{◌≡◌, List, [], ◌∷◌, ◌++◌, refl}
use Rattle.std.proofs.Common.{ap}
use Rattle.raft_schedule.specs.declared.event.Event.{Event}
use Rattle.raft_schedule.specs.declared.event.AppliedEvent.{AppliedEvent}
use Rattle.raft_store.specs.declared.entry.Entry.{Entry}
use Rattle.raft_node.specs.declared.given.Given.{Given}
use Rattle.raft_node.specs.Runs.{History, with_event, run, events_of, whole_logs}

abbrev Told : Type 0
Told = History (List Entry)

run-append : (given : Given) (xs ys : List Event) (t : Told) → run whole_logs given (xs ++ ys) t ≡ run whole_logs given ys (run whole_logs given xs t)
run-append given [] ys t = refl
run-append given (x ∷ xs) ys t = run-append given xs ys (with_event whole_logs given t x)

events-append : (xs ys : List AppliedEvent) → events_of (xs ++ ys) ≡ events_of xs ++ events_of ys
events-append [] ys = refl
events-append (x ∷ xs) ys = ap (λ es. x.event ∷ es) (events-append xs ys)

pub events_of-with_event : (given : Given) (t : Told) (e : Event) → events_of (with_event whole_logs given t e).past ≡ events_of t.past ++ e ∷ []
unfolding with_event
events_of-with_event given t e = events-append t.past _

-- one more event is a run of one more
pub with_event-run : (given : Given) (t s : Told) (e : Event) → t ≡ run whole_logs given (events_of t.past) s
    → with_event whole_logs given t e ≡ run whole_logs given (events_of (with_event whole_logs given t e).past) s
with_event-run given t s e h = rw (events_of-with_event given t e) (rw (run-append given (events_of t.past) (e ∷ []) s) (ap (λ x. with_event whole_logs given x e) h))

-- the same along the equation that a call ensures
pub is_run-with_event : (given : Given) (old new s : Told) (e : Event) → new ≡ with_event whole_logs given old e → old ≡ run whole_logs given (events_of old.past) s
    → new ≡ run whole_logs given (events_of new.past) s
is_run-with_event given old new s e is h = rw is (with_event-run given old s e h)
