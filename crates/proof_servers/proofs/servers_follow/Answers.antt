use Rattle.proof_servers.proofs.Follow.{ahead, servers_follow}
use Rattle.proof_servers.proofs.servers_follow.Goals as goal

pub returns-clause-follow : goal.returns-clause-follow
returns-clause-follow c = servers_follow

pub returns-clause-ahead : goal.returns-clause-ahead
returns-clause-ahead c = ahead
