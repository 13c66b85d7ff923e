use Rattle.proof_servers.proofs.Order.{in_order}
use Rattle.proof_servers.proofs.worlds_execute_in_order.Goals as goal

pub returns : goal.returns
returns c = in_order
