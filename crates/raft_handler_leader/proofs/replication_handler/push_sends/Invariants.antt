use Rattle.std.proofs.Common.{◌≡◌, take}
use Rattle.std.specs.List.{flat_map}
use Rattle.raft_command.specs.Queue.{queued}
use Rattle.raft_steps.specs.ReplicationHandler.{sends_of}
use Rattle.raft_handler_leader.proofs.replication_handler.push_sends.Given as goal

abbrev pub invariant-loop-row : goal.invariant-loop-row
invariant-loop-row g l = l.output ≡ queued l.initial.output (flat_map (sends_of g.C.NodeId.Ord.cmp l.config l.force l.state) (take l.row-index l.rows))
