use Rattle.std.proofs.Common.{subst, sym}
use Rattle.std.proofs.KnownBytes.{Appends-nil, Appends-trans}
use Rattle.std.specs.Io.KnownBytes.{Appends}
use Rattle.raft_recovery.proofs.Simulations.{lines_more}
use Rattle.raft_recovery.proofs.simulation.print_events.Goals as goal

pub loop-event-init : goal.loop-event-init
loop-event-init g c = Appends-nil _

pub loop-event-preserved : goal.loop-event-preserved
loop-event-preserved g c =
    let more = lines_more c.args.events.now c.loop-event.event-index c.event-item.result c.loop-event-test.true c.event-item.is in
    subst (Appends _ _) (sym more) (Appends-trans _ _ _ _ _ c.loop-event.invariant c.in_ok-writeln.ensures.bytes)
