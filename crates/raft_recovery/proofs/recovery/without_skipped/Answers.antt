use Rattle.std.proofs.Common.{◌∙◌, List, ap, drop, length}
use Rattle.raft_node.specs.Runs.{events_of}
use Rattle.raft_schedule.specs.declared.event.AppliedEvent.{AppliedEvent}
use Rattle.raft_recovery.proofs.Skips.{kept_on}
use Rattle.raft_recovery.proofs.recovery.without_skipped.Goals as goal

pub returns : goal.returns
returns c = λ up value es goes rec.
    let new = c.in_ok-new.new in
    let events =
    c.from_vec-events.ensures
    ∙ (c.in_ok-events.ensures ∙ ap (λ (ps : List AppliedEvent). events_of (drop (length ps) new.history.past)) c.events.ensures) in
    kept_on c.args.old.now c.args.tried.now new es goes c.in_ok-new.ensures.run c.in_ok-new.ensures.new up value _ events rec
