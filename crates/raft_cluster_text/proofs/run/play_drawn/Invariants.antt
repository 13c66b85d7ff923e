use Rattle.raft_cluster_text.specs.Entries.{HoldsAt}
use Rattle.raft_cluster_text.proofs.run.play_drawn.Given as goal

abbrev pub invariant-draws : goal.invariant-draws
invariant-draws l = HoldsAt l.fn.cluster → HoldsAt l.cluster
