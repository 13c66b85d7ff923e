use Rattle.std.proofs.Common.{◌≡◌, ◌≤◌, length, map, take, drop, []}
use Rattle.raft_progress.specs.Ranking.{first_reached}
use Rattle.raft_progress.proofs.granted.find_reached.Given as goal

abbrev pub invariant-loop-i : goal.invariant-loop-i
invariant-loop-i g l = record {
  room : length l.ranked ≤ length l.room;
  written : take l.i l.room ≡ map (λ voter. voter.0) (take l.i l.ranked);
  asked : first_reached g.QS.QuorumSet.has_quorum l.set [] l.ranked ≡ first_reached g.QS.QuorumSet.has_quorum l.set (map (λ voter. voter.0) (take l.i l.ranked)) (drop l.i l.ranked);
}
