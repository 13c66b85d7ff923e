-- What a world keeps, along the equations that its events ensure.
use Rattle.std.specs.Prelude.{◌≡◌, ◌<◌, ◌^◌, All, Bool, true, false, List, [], ◌∷◌, ◌++◌, Option, None, Some, Result, Ok, Err, IfOk, MatchResult, if◌then◌else◌, length, nat_lt, refl, slice_get, take}
use Rattle.std.proofs.Common.{arith, sym, subst, ap, ◌∙◌}
use Rattle.std.proofs.lemmas.List.{get_or_push, length_push, take_at}
use Rattle.std.proofs.lemmas.Option.{slice_get-get_or}
use Rattle.std.specs.Ordering.{nat_cmp}
use Rattle.raft_state.specs.Sorted.{IsSound}
use Rattle.raft_store.specs.declared.entry.Entry.{Entry}
use Rattle.raft_schedule.specs.declared.event.Event.{Event}
use Rattle.raft_schedule.specs.declared.event.Outcome.{Outcome}
use Rattle.raft_node.specs.Held.{AllResting}
use Rattle.raft_node.specs.declared.given.Given.{Given}
use Rattle.raft_node.specs.Events.{happens}
use Rattle.raft_node.specs.MayKeep.{AllMayKeep, KeepsDuring}
use Rattle.raft_node.specs.Net.{Net}
use Rattle.raft_node.specs.Runs.{History, events_of, moment, whole_logs, world_after}
use Rattle.raft_node.specs.Safety.{entries_of}
use Rattle.raft_node.specs.WellFormed.{has_twice, lacks_voters}
use Rattle.raft_world.specs.declared.error.WorldError.{WorldError}
use Rattle.raft_world.specs.declared.error.WorldError.TheVariants.{DuplicateId, LimitReached, NoVoters, OutOfMemory, TooManyNodes}
use Rattle.raft_world.specs.Limits.{refusals_of_new}
use Rattle.raft_world.specs.declared.agreement.Agreement.{Agreement}
use Rattle.raft_world.specs.declared.agreement.Agreement.TheVariants.{Agree, Differ}
use Rattle.raft_world.specs.Agreed.{Checks}
use Rattle.raft_world.specs.Reported.{Reported}
use Rattle.raft_world.specs.Worlds.{Applies, IsMade, IsWorldOfRun, IsSpentOf, ReportAgrees, WorldView, refusals_of_apply, events_in, reported, run_in}
use Rattle.proof_clients.proofs.proof_deeds_proofs.Proved.{after_agrees, after_resting, run_may_keep}

-- unless memory ran out, the nodes of a world rest
pub world_resting : (w : WorldView) → IsWorldOfRun w → w.spent ≡ false → AllResting w.history.net.nodes
world_resting w is here = subst (λ t. AllResting t.net.nodes) (sym (is.is here)) (after_resting w.given is.made.well_formed (events_of w.history.past))

-- and its records may keep whole logs, after any number of a next event's commands
world_keeps : (w : WorldView) → IsWorldOfRun w → w.spent ≡ false → (e : Event) → KeepsDuring w.given e w.history.net
world_keeps w is here e n =
    let es : List Event = events_of w.history.past in
    let last : slice_get (es ++ e ∷ []) (length es) ≡ Some e =
    slice_get-get_or (es ++ e ∷ []) (length es) e (omega (arith, length_push es e)) ∙ ap Some (get_or_push es e e (length es) refl) in
    let before : take (length es) (es ++ e ∷ []) ≡ es = take_at es (e ∷ []) (length es) refl in
    let along : AllMayKeep (moment w.given (es ++ e ∷ []) (length es) n) = run_may_keep w.given is.made.well_formed (es ++ e ∷ []) (length es) n in
    let there : AllMayKeep (happens whole_logs (λ _. n) w.given e (world_after w.given (take (length es) (es ++ e ∷ [])))).1 =
    subst
    (λ (o : Option Event). AllMayKeep (elim o as (λ _. Net (List Entry)) [
      | None ↦ world_after w.given (take (length es) (es ++ e ∷ []))
      | Some f ↦ (happens whole_logs (λ _. n) w.given f (world_after w.given (take (length es) (es ++ e ∷ [])))).1
    ]))
    last along in
    subst (λ (t : History (List Entry)). AllMayKeep (happens whole_logs (λ _. n) w.given e t.net).1) (sym (is.is here))
    (subst (λ (xs : List Event). AllMayKeep (happens whole_logs (λ _. n) w.given e (world_after w.given xs)).1) before there)

-- a world that takes an event is not spent
pub not_spent : (w : WorldView) → refusals_of_apply w ≡ None → w.spent ≡ false
not_spent w h = go w.spent h
  where
    go : (b : Bool) → refusals_of_apply (record w { spent = b }) ≡ None → b ≡ false
    go true k = cc
    go false k = refl

pub takes_event : (w : WorldView) → IsWorldOfRun w → refusals_of_apply w ≡ None → AllResting w.history.net.nodes
takes_event w is none = world_resting w is (not_spent w none)

pub keeps_event : (w : WorldView) (e : Event) → IsWorldOfRun w → refusals_of_apply w ≡ None → KeepsDuring w.given e w.history.net
keeps_event w e is none = world_keeps w is (not_spent w none) e

-- a world that isn't refused can be made
pub can_be_made : (given : Given) → refusals_of_new given.ids given.membership.groups ≡ None → All (λ id. id < 2 ^ 64) given.ids → IsSound nat_cmp given.membership.groups given.membership.nodes → IsMade given
can_be_made given none named sound = go (has_twice given.ids) (nat_lt 16 (length given.ids)) (lacks_voters given.membership.groups) refl refl none
  where
    go : (a b c : Bool) → has_twice given.ids ≡ a → lacks_voters given.membership.groups ≡ c
        → ◌≡◌ {A = Option WorldError} (if a then Some DuplicateId else if b then Some TooManyNodes else if c then Some NoVoters else None) None → IsMade given
    go true b c p q k = cc
    go false true c p q k = cc
    go false false true p q k = cc
    go false false false p q k = record { well_formed = record { named = named; once = p; voters = q }; sound = sound }

-- a report of a world whose memory wasn't wanting is that of its run
pub reports_run : {E : Type 0} (w : WorldView) (x : Result Reported E) → IsWorldOfRun w → w.spent ≡ false → IfOk x (λ r. r ≡ reported w.history) → IfOk x (λ r. r ≡ reported (run_in w))
reports_run w x is here h = subst (λ (t : History (List Entry)). IfOk x (λ r. r ≡ reported t)) (is.is here) h

-- an event changes nothing of what a world is made of
pub applies_given : (old : WorldView) (e : Event) (r : Result Outcome WorldError) (new : WorldView) → Applies old e r new → new.given ≡ old.given
applies_given old e (Ok o) new h = ap (λ (w : WorldView). w.given) h.2
applies_given old e (Err LimitReached) new h = ap (λ (w : WorldView). w.given) h.1
applies_given old e (Err OutOfMemory) new h = h.1.0
applies_given old e (Err DuplicateId) new h = absurd h
applies_given old e (Err TooManyNodes) new h = absurd h
applies_given old e (Err NoVoters) new h = absurd h

pub reports_given : (old new : WorldView) (r : Result Reported WorldError) → MatchResult r (λ report. (report ≡ reported old.history) × (new ≡ old)) (λ error. (error ≡ OutOfMemory) × IsSpentOf old new) → new.given ≡ old.given
reports_given old new (Ok report) h = ap (λ (w : WorldView). w.given) h.1
reports_given old new (Err e) h = h.1.0

pub made_along : (old new : Given) → new ≡ old → IsMade old → IsMade new
made_along old new is h = subst IsMade (sym is) h

-- what the report of a run promises
pub report_agrees : {E : Type 0} (w : WorldView) (x : Result Reported E) → IsMade w.given → IfOk x (λ r. r ≡ reported (run_in w)) → IfOk x ReportAgrees
report_agrees w (Ok r) made is = subst ReportAgrees (sym is) (after_agrees w.given made.well_formed (events_in w), λ a checks. agree a checks)
  where
    agree : (a : Agreement) → Checks (entries_of (run_in w).net.records.executed (run_in w).net.records.installed) a → a ≡ Agree
    agree Agree h = refl
    agree (Differ i) h = absurd (h.0.apart (after_agrees w.given made.well_formed (events_in w) h.0.one h.0.other h.0.has_one h.0.has_other (h.0.one_at ∙ sym h.0.other_at)))
report_agrees w (Err e) made is = tt
