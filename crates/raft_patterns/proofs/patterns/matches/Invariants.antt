use Rattle.std.proofs.Common.{◌≡◌, true, length}
use Rattle.raft_patterns.specs.Patterns.{matches}
use Rattle.raft_patterns.specs.Runs.{stops}
use Rattle.raft_patterns.proofs.Matching.{tried}
use Rattle.raft_patterns.proofs.patterns.matches.Given as goal

abbrev pub invariant-loop-behind : goal.invariant-loop-behind
invariant-loop-behind l = record {
  same : tried l.rest l.left ≡ matches l.pattern l.key;
  stops : stops l.rest ≡ true;
}

abbrev pub decreases-loop-behind : goal.decreases-loop-behind
decreases-loop-behind l = length l.rest
