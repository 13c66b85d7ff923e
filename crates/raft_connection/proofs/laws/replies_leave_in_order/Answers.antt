use Rattle.raft_connection.proofs.Ordered.{leave_in_order}
use Rattle.raft_connection.proofs.laws.replies_leave_in_order.Goals as goal

pub returns : goal.returns
returns c = leave_in_order
