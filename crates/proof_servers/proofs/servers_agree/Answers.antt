use Rattle.proof_servers.proofs.Told.{nodes_rest, released_agree}
use Rattle.proof_servers.proofs.servers_agree.Goals as goal

pub returns-clause-agree : goal.returns-clause-agree
returns-clause-agree c = released_agree

pub returns-clause-rest : goal.returns-clause-rest
returns-clause-rest c = nodes_rest
