use Rattle.std.proofs.Common.{◌≡◌, length}
use Rattle.raft_requests.specs.Words.{without_ends}
use Rattle.raft_requests.proofs.words.without_ends.Given as goal

abbrev pub invariant-loop-last : goal.invariant-loop-last
invariant-loop-last l = without_ends l.rest ≡ without_ends l.word

abbrev pub decreases-loop-last : goal.decreases-loop-last
decreases-loop-last l = length l.rest
