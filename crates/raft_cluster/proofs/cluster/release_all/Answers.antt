use Rattle.raft_cluster.proofs.Clusters.{leaves_more, leaves_none}
use Rattle.raft_cluster.proofs.cluster.release_all.Goals as goal

pub outputs-init : goal.outputs-init
outputs-init g c = leaves_none c.args.node c.args.network.now c.args.told.now

pub outputs-preserved : goal.outputs-preserved
outputs-preserved g c =
    leaves_more c.args.node c.outputs.yielded c.in-Some.output c.args.network.now c.outputs.network c.release.new.network c.args.told.now c.outputs.told c.release.new.told
    c.outputs.invariant c.in_ok-release.ensures
