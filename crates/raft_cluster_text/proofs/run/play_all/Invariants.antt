use Rattle.raft_cluster_text.specs.Entries.{HoldsAt}
use Rattle.raft_cluster_text.proofs.run.play_all.Given as goal

abbrev pub invariant-actions : goal.invariant-actions
invariant-actions l = HoldsAt l.fn.cluster → HoldsAt l.cluster
