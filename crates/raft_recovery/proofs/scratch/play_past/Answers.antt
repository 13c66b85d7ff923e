use Rattle.std.proofs.Common.{◌≡◌, List, subst}
use Rattle.std.proofs.lemmas.List.{take_all}
use Rattle.raft_node.specs.Runs.{events_of}
use Rattle.raft_schedule.specs.declared.event.AppliedEvent.{AppliedEvent}
use Rattle.raft_recovery.specs.Ways.{played}
use Rattle.raft_recovery.proofs.Played.{past_more, played_none}
use Rattle.raft_recovery.proofs.scratch.play_past.Goals as goal

pub loop-applied-init : goal.loop-applied-init
loop-applied-init c = played_none c.args.world.now

pub loop-applied-preserved : goal.loop-applied-preserved
loop-applied-preserved c =
    past_more c.args.world.now c.loop-applied.world c.play_copy.new.world c.args.past.now c.loop-applied.applied-index c.applied-item.result
    c.loop-applied-test.true c.applied-item.is c.loop-applied.invariant c.in_ok-play_copy.ensures

pub returns : goal.returns
returns c =
    subst (λ (ps : List AppliedEvent). c.loop-applied.world ≡ played (events_of ps) c.args.world.now)
    (take_all c.loop-applied.applied-index c.args.past.now c.loop-applied-test.false) c.loop-applied.invariant
