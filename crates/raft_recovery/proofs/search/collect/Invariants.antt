use Rattle.std.proofs.Common.{◌≡◌, drop}
use Rattle.proof_progress.specs.Plans.{collect}
use Rattle.raft_recovery.specs.Ways.{played}
use Rattle.raft_recovery.proofs.search.collect.Given as goal

-- what is left of the plan
abbrev pub invariant-loop-voter : goal.invariant-loop-voter
invariant-loop-voter l =
    played (collect l.world.given l.now l.ballot.id l.ballot.vote l.ballot.last (drop l.voter-index l.voters) l.world.history.net) l.world
    ≡ played (collect l.initial.world.given l.now l.ballot.id l.ballot.vote l.ballot.last l.voters l.initial.world.history.net) l.initial.world
