use Rattle.proof_answers.proofs.Came.{tell_executed, told_in_order, told_proposed}
use Rattle.proof_answers.proofs.servers_tell_in_order.Goals as goal

pub returns-clause-executed : goal.returns-clause-executed
returns-clause-executed c = tell_executed

pub returns-clause-proposed : goal.returns-clause-proposed
returns-clause-proposed c = told_proposed

pub returns-clause-order : goal.returns-clause-order
returns-clause-order c = told_in_order
