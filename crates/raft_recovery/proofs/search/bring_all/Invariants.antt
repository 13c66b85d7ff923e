use Rattle.std.proofs.Common.{◌≡◌, drop}
use Rattle.proof_progress.specs.Plans.{bring_all}
use Rattle.raft_recovery.specs.Ways.{played}
use Rattle.raft_recovery.proofs.search.bring_all.Given as goal

-- what is left of the plan
abbrev pub invariant-loop-other : goal.invariant-loop-other
invariant-loop-other l =
    played (bring_all l.world.given l.now l.id (drop l.other-index l.others) l.world.history.net) l.world
    ≡ played (bring_all l.initial.world.given l.now l.id l.others l.initial.world.history.net) l.initial.world
