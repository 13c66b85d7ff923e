use Rattle.raft_service.proofs.InOrder.{in_order}
use Rattle.raft_service.proofs.laws.requests_keep_their_order.Goals as goal

pub returns : goal.returns
returns c = in_order
