use Rattle.std.proofs.Common.{◌≡◌, drop}
use Rattle.proof_progress.specs.Plans.{tell_all}
use Rattle.raft_recovery.specs.Ways.{played}
use Rattle.raft_recovery.proofs.search.tell_all.Given as goal

-- what is left of the plan
abbrev pub invariant-loop-other : goal.invariant-loop-other
invariant-loop-other l =
    played (tell_all l.world.given l.now l.commit.id l.commit.vote l.commit.committed (drop l.other-index l.others) l.world.history.net) l.world
    ≡ played (tell_all l.initial.world.given l.now l.commit.id l.commit.vote l.commit.committed l.others l.initial.world.history.net) l.initial.world
