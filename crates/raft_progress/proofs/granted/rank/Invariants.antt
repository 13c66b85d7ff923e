use Rattle.std.specs.List.Sorted.{IsPermutation}
use Rattle.raft_progress.specs.Ranking.{IsFallingUpTo}
use Rattle.raft_progress.proofs.granted.rank.Given as goal

abbrev pub invariant-loop-i : goal.invariant-loop-i
invariant-loop-i g l = record {
  same : IsPermutation l.initial.voters l.voters;
  falling : IsFallingUpTo g.P.Ord.cmp l.i l.voters;
}
