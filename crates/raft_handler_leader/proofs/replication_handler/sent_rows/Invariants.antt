use Rattle.std.proofs.Common.{◌≡◌, take, map}
use Rattle.raft_steps.specs.ReplicationHandler.{sent_row}
use Rattle.raft_handler_leader.proofs.replication_handler.sent_rows.Given as goal

abbrev pub invariant-loop-row : goal.invariant-loop-row
invariant-loop-row g l = l.sent.items ≡ map (sent_row g.NID.Ord.cmp l.config l.state) (take l.row-index l.rows)
