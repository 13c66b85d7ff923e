use Rattle.std.proofs.Common.{◌≡◌, length}
use Rattle.std.specs.Slice.Iter.{iter_rest}
use Rattle.raft_proposer.specs.Granters.{granters_left}
use Rattle.raft_proposer.proofs.candidate.GrantersIterIterator.next.Given as goal

-- what is passed over has not granted
abbrev pub invariant-loop-row : goal.invariant-loop-row
invariant-loop-row g l = granters_left l.self ≡ granters_left l.initial.self

abbrev pub decreases-loop-row : goal.decreases-loop-row
decreases-loop-row g l = length (iter_rest l.self.inner.inner)
