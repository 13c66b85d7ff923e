use Rattle.std.proofs.Common.{ℕ, ◌≡◌, ◌∙◌, List, ap, drop, length, subst, sym, None, Some}
use Rattle.raft_state.specs.declared.ids.LogId.{LogId}
use Rattle.raft_schedule.specs.declared.event.AppliedEvent.{AppliedEvent}
use Rattle.raft_schedule.specs.declared.event.Event.{Event}
use Rattle.raft_node.specs.Runs.{events_of}
use Rattle.raft_recovery.specs.Recoveries.{Recovers}
use Rattle.raft_recovery.proofs.Judging.{clash}
use Rattle.raft_recovery.proofs.recovery.judged.Goals as goal

pub returns-in_default-clause-none : goal.returns-in_default-clause-none
returns-in_default-clause-none c = λ _ id at r. let z : None ≡ Some id = c.in_default.ensures ∙ at in cc

pub returns-then-have-clause-ok : goal.returns-then-have-clause-ok
returns-then-have-clause-ok c =
    let old = c.args.old.now in
    let new = c.args.new.now in (
      c.from_vec-events.ensures
          ∙ (c.in_ok-events.ensures ∙ ap (λ (ps : List AppliedEvent). events_of (drop (length ps) new.history.past)) c.events.ensures),
      subst
          (λ (es : List Event). Recovers old.given old.history.net new.history.net c.args.up.now c.in-Some.log_id c.args.value.now (length es))
          c.as_slice-count.ensures (c.in_ok-have.ensures.0 c.if-have.true),
    )

pub returns-else-have-clause-none : goal.returns-else-have-clause-none
returns-else-have-clause-none c = λ _ id at r.
    let old = c.args.old.now in
    let new = c.args.new.now in
    let found : Some c.in-Some.log_id ≡ Some id = c.in-Some.ensures ∙ at in
    let same : id ≡ c.in-Some.log_id = cc in
    let events =
    c.as_slice-count.ensures
    ∙ (c.from_vec-events.ensures
    ∙ (c.in_ok-events.ensures ∙ ap (λ (ps : List AppliedEvent). events_of (drop (length ps) new.history.past)) c.events.ensures)) in
    clash c.in_ok-have.have
    (c.in_ok-have.ensures.1
    (subst (λ (es : List Event). Recovers old.given old.history.net new.history.net c.args.up.now c.in-Some.log_id c.args.value.now (length es))
    (sym events)
    (subst
    (λ (x : LogId ℕ). Recovers old.given old.history.net new.history.net c.args.up.now x c.args.value.now
    (length (events_of (drop (length old.history.past) new.history.past))))
    same r)))
    c.if-have.false
