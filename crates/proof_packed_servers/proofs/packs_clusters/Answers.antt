use Rattle.proof_packed_servers.proofs.Clusters.{clusters_kept}
use Rattle.proof_packed_servers.proofs.packs_clusters.Goals as goal

pub returns : goal.returns
returns c s = λ app given wf actions may. clusters_kept given wf app actions may
