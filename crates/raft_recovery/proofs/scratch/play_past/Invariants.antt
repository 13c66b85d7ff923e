use Rattle.std.proofs.Common.{◌≡◌, take}
use Rattle.raft_node.specs.Runs.{events_of}
use Rattle.raft_recovery.specs.Ways.{played}
use Rattle.raft_recovery.proofs.scratch.play_past.Given as goal

abbrev pub invariant-loop-applied : goal.invariant-loop-applied
invariant-loop-applied l = l.world ≡ played (events_of (take l.applied-index l.past)) l.initial.world
