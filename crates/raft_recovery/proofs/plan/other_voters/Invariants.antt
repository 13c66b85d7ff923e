use Rattle.std.proofs.Common.{◌≡◌, take}
use Rattle.proof_progress.specs.GoneByPlan.{other_voters}
use Rattle.raft_recovery.proofs.plan.other_voters.Given as goal

abbrev pub invariant-loop-other : goal.invariant-loop-other
invariant-loop-other l = l.ids.items ≡ other_voters l.membership (take l.other-index l.up) l.id
