use Rattle.std.proofs.Common.{take}
use Rattle.std.specs.Io.KnownBytes.{Appends}
use Rattle.raft_recovery.specs.Simulated.{lines_of}
use Rattle.raft_recovery.proofs.simulation.print_events.Given as goal

abbrev pub invariant-loop-event : goal.invariant-loop-event
invariant-loop-event g l = Appends (g.W.Write.contents l.initial.output) (g.W.Write.contents l.output) (lines_of (take l.event-index l.events))
