use Rattle.std.proofs.Common.{◌≡◌, ◌+◌, ◌≤◌, get_or}
use Rattle.std.specs.Ordering.{is_lt}
use Rattle.std.specs.List.Sorted.{IsPermutation}
use Rattle.raft_progress.proofs.Insertions.{IsSettling}
use Rattle.raft_progress.proofs.granted.move_up.Given as goal

abbrev pub invariant-loop-at : goal.invariant-loop-at
invariant-loop-at g l = record {
  inside : l.at ≤ l.from;
  moves : (d : g.row.ID.Denot × g.row.P.Denot) → (get_or l.voters l.at d).1 ≡ l.value;
  same : IsPermutation l.initial.voters l.voters;
  settling : IsSettling (λ later earlier. is_lt (g.P.Ord.cmp earlier.1 later.1)) l.at (l.from + 1) l.voters;
}

abbrev pub decreases-loop-at : goal.decreases-loop-at
decreases-loop-at g l = l.at
