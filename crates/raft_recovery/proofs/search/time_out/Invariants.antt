use Rattle.std.proofs.Common.{◌≡◌, ◌-◌}
use Rattle.proof_progress.specs.Continuations.{timeout}
use Rattle.proof_progress.specs.Plans.{times}
use Rattle.raft_recovery.specs.Ways.{played}
use Rattle.raft_recovery.proofs.search.time_out.Given as goal

-- what is left of the timeouts
abbrev pub invariant-loop-term : goal.invariant-loop-term
invariant-loop-term l =
    played (times (l.last - l._term) (timeout l.id l.now)) l.world ≡ played (times (l.last - l.first) (timeout l.id l.now)) l.initial.world
