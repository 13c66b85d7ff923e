use Rattle.raft_cluster.proofs.Agree.{clusters_see_one}
use Rattle.raft_cluster.proofs.laws.clusters_see_one_object.Goals as goal

pub returns : goal.returns
returns g c = clusters_see_one g.M.Machine.application g.M.Machine.codec
