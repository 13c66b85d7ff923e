use Rattle.proof_packed_servers.proofs.Serving.{servers_kept}
use Rattle.proof_packed_servers.proofs.packs_servers.Goals as goal

pub returns : goal.returns
returns c s = servers_kept
