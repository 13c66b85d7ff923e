use Rattle.std.proofs.Common.{◌≡◌, drop}
use Rattle.proof_progress.specs.Plans.{starts}
use Rattle.raft_recovery.specs.Ways.{played}
use Rattle.raft_recovery.proofs.search.start_all.Given as goal

-- what is left of the plan
abbrev pub invariant-loop-id : goal.invariant-loop-id
invariant-loop-id l = played (starts (drop l.id-index l.ids)) l.world ≡ played (starts l.ids) l.initial.world
