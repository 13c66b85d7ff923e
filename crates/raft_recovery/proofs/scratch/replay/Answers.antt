use Rattle.std.proofs.Common.{ap, ◌∙◌, List}
use Rattle.raft_node.specs.Runs.{events_of}
use Rattle.raft_schedule.specs.declared.event.AppliedEvent.{AppliedEvent}
use Rattle.raft_recovery.specs.Ways.{played}
use Rattle.raft_recovery.proofs.scratch.replay.Goals as goal

pub returns-clause-new : goal.returns-clause-new
returns-clause-new c =
    c.in_ok-play_past.ensures
    ∙ (ap (λ (ps : List AppliedEvent). played (events_of ps) c.in_ok-new.new) c.events.ensures
    ∙ ap (played (events_of c.args.world.now.history.past)) c.in_ok-new.ensures.empty)
