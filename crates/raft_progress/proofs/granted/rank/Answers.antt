use Rattle.std.proofs.lemmas.List.Sorted.{IsPermutation-trans}
use Rattle.raft_progress.proofs.granted.rank.Goals as goal

pub loop-i-preserved : goal.loop-i-preserved
loop-i-preserved g c = record {
  same = IsPermutation-trans _ _ _ c.loop-i.invariant.same c.move_up.ensures.same;
  falling = c.move_up.ensures.falling;
}
