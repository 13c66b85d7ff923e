use Rattle.raft_cluster_text.specs.Entries.{HoldsAt}
use Rattle.raft_cluster_text.proofs.run.play_quietly.Given as goal

abbrev pub invariant-draws : goal.invariant-draws
invariant-draws l = HoldsAt l.fn.cluster → HoldsAt l.cluster

abbrev pub invariant-last : goal.invariant-last
invariant-last l = HoldsAt l.fn.cluster → HoldsAt l.cluster
