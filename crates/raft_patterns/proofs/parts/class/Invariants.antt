use Rattle.std.proofs.Common.{◌≡◌, ◌≤◌, length}
use Rattle.raft_patterns.specs.Patterns.{class_at}
use Rattle.raft_patterns.specs.Runs.{has}
use Rattle.raft_patterns.proofs.Classes.{so_far}
use Rattle.raft_patterns.proofs.parts.class.Given as goal

abbrev pub invariant-loop-first : goal.invariant-loop-first
invariant-loop-first l = record {
  so_far : so_far l.byte l.has l.rest ≡ has l.byte (class_at l.pattern);
  shorter : length l.rest ≤ length l.pattern;
}

abbrev pub decreases-loop-first : goal.decreases-loop-first
decreases-loop-first l = length l.rest
