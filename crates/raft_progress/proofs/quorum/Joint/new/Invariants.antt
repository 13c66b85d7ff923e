use Rattle.std.proofs.Common.{◌≡◌, map}
use Rattle.raft_progress.specs.Quorum.{normalised}
use Rattle.raft_progress.proofs.quorum.Joint.new.Given as goal

abbrev pub invariant-loop-group : goal.invariant-loop-group
invariant-loop-group g l = l.normalised ≡ normalised g.ID.Ord.cmp (map (λ group. group.items) l.yielded)
