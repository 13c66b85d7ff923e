use Rattle.proof_packed_servers.proofs.Checkpoints.{all_alike}
use Rattle.proof_packed_servers.proofs.clusters_stay_alike.Goals as goal

pub returns : goal.returns
returns c s = all_alike
