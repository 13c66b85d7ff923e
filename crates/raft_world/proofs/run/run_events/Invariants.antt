use Rattle.std.proofs.Common.{◌≡◌, take, false}
use Rattle.raft_node.specs.Runs.{run, whole_logs}
use Rattle.raft_world.specs.Worlds.{Unhindered}
use Rattle.raft_world.proofs.run.run_events.Given as goal

abbrev pub invariant-loop-event : goal.invariant-loop-event
invariant-loop-event l =
    (l.initial.world.spent ≡ false)
    × (l.world ≡ record l.initial.world { history = run whole_logs l.initial.world.given (take l.event-index l.events) l.initial.world.history })
    × Unhindered l.initial.world l.events l.event-index
