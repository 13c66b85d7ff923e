use Rattle.std.proofs.Common.{◌≡◌, take}
use Rattle.proof_progress.specs.GoneByPlan.{other_learners}
use Rattle.raft_recovery.proofs.plan.other_learners.Given as goal

abbrev pub invariant-loop-other : goal.invariant-loop-other
invariant-loop-other l = l.ids.items ≡ other_learners l.membership (take l.other-index l.up) l.id
