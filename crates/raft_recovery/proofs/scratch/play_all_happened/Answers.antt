use Rattle.std.proofs.Common.{◌≡◌, List, subst}
use Rattle.std.proofs.lemmas.List.{take_all}
use Rattle.std.specs.Prelude.{filter}
use Rattle.raft_node.specs.Runs.{events_of}
use Rattle.raft_schedule.specs.declared.event.AppliedEvent.{AppliedEvent}
use Rattle.raft_recovery.specs.Recoveries.{happened}
use Rattle.raft_recovery.specs.Ways.{played}
use Rattle.raft_recovery.proofs.Played.{happened_more, played_none}
use Rattle.raft_recovery.proofs.scratch.play_all_happened.Goals as goal

pub loop-applied-init : goal.loop-applied-init
loop-applied-init c = played_none c.args.world.now

pub loop-applied-preserved : goal.loop-applied-preserved
loop-applied-preserved c =
    happened_more c.args.world.now c.loop-applied.world c.play_happened.new.world c.args.past.now c.loop-applied.applied-index c.applied-item.result
    c.loop-applied-test.true c.applied-item.is c.loop-applied.invariant c.in_ok-play_happened.ensures

pub returns : goal.returns
returns c =
    subst (λ (ps : List AppliedEvent). c.loop-applied.world ≡ played (events_of (filter happened ps)) c.args.world.now)
    (take_all c.loop-applied.applied-index c.args.past.now c.loop-applied-test.false) c.loop-applied.invariant
