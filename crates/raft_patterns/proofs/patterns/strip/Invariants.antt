use Rattle.std.proofs.Common.{◌≡◌, ◌≤◌, length}
use Rattle.raft_patterns.specs.Runs.{stripped}
use Rattle.raft_patterns.proofs.patterns.strip.Given as goal

abbrev pub invariant-loop-left : goal.invariant-loop-left
invariant-loop-left l = record {
  same : stripped l.rest l.left ≡ stripped l.pattern l.key;
  shorter : length l.rest ≤ length l.pattern;
}

abbrev pub decreases-loop-left : goal.decreases-loop-left
decreases-loop-left l = length l.left
