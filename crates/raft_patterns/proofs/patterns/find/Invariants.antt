use Rattle.std.proofs.Common.{◌≡◌, length}
use Rattle.raft_patterns.specs.Runs.{found}
use Rattle.raft_patterns.proofs.patterns.find.Given as goal

abbrev pub invariant-loop-rest : goal.invariant-loop-rest
invariant-loop-rest l = found l.pattern l.from ≡ found l.pattern l.key

abbrev pub decreases-loop-rest : goal.decreases-loop-rest
decreases-loop-rest l = length l.from
