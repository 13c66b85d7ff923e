use Rattle.proof_packed_servers.proofs.Unpacking.{runs_unpacked}
use Rattle.proof_packed_servers.proofs.unpacks_clusters.Goals as goal

pub returns : goal.returns
returns c s = λ app given wf actions may. runs_unpacked app given wf actions may
