use Rattle.std.proofs.Common.{◌≡◌, take}
use Rattle.std.specs.Prelude.{filter}
use Rattle.raft_node.specs.Runs.{events_of}
use Rattle.raft_recovery.specs.Recoveries.{happened}
use Rattle.raft_recovery.specs.Ways.{played}
use Rattle.raft_recovery.proofs.scratch.play_all_happened.Given as goal

abbrev pub invariant-loop-applied : goal.invariant-loop-applied
invariant-loop-applied l = l.world ≡ played (events_of (filter happened (take l.applied-index l.past))) l.initial.world
