use Rattle.std.proofs.Common.{List, rules, subst, sym, ℕ, ◌∙◌}
use Rattle.raft_cluster.specs.Clusters.{IsFrameAt}
use Rattle.raft_cluster.proofs.Clusters.{frame_at}
use Rattle.raft_cluster.proofs.cluster.Cluster.deliver.Goals as goal

pub returns : goal.returns
returns g c =
    c.hand.ensures
    (subst (λ (bytes : List ℕ). IsFrameAt c.args.self.now.network.sent.items bytes) (sym (c.as_slice.ensures ∙ c.in_ok-bytes.ensures))
    (frame_at c.args.self.now.network.sent.items c.args.number c.in-Some.sent.now (search rules)))
