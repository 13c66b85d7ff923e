use Rattle.std.proofs.Common.{◌≡◌, take}
use Rattle.raft_node.specs.Runs.{events_of}
use Rattle.raft_recovery.proofs.scratch.copy_all.Given as goal

abbrev pub invariant-loop-applied : goal.invariant-loop-applied
invariant-loop-applied l = l.events.items ≡ events_of (take l.applied-index l.past)
