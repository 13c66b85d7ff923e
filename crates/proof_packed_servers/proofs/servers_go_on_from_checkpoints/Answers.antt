use Rattle.proof_packed_servers.proofs.Checkpoints.{go_on}
use Rattle.proof_packed_servers.proofs.servers_go_on_from_checkpoints.Goals as goal

pub returns : goal.returns
returns c s = go_on
