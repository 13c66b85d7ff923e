use Rattle.std.proofs.Common.{◌≡◌, ◌++◌, map}
use Rattle.raft_answers.specs.Requests.{proposal_at}
use Rattle.raft_answers.proofs.requests.push_places.Given as goal

abbrev pub invariant-loop-place : goal.invariant-loop-place
invariant-loop-place l = l.proposed.items ≡ l.initial.proposed.items ++ map (proposal_at l.first) l.yielded
