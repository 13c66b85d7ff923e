use Rattle.raft_cluster.proofs.Agree.{clusters_agree, clusters_follow}
use Rattle.raft_cluster.proofs.laws.clusters_follow.Goals as goal

pub returns-clause-follow : goal.returns-clause-follow
returns-clause-follow g c = clusters_follow g.M.Machine.application g.M.Machine.codec

pub returns-clause-agree : goal.returns-clause-agree
returns-clause-agree g c = clusters_agree g.M.Machine.application g.M.Machine.codec
