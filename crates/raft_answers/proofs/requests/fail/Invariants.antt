use Rattle.std.proofs.Common.{◌≡◌, ◌++◌}
use Rattle.raft_answers.specs.Answers.{failed}
use Rattle.raft_answers.proofs.requests.fail.Given as goal

abbrev pub invariant-loop-place : goal.invariant-loop-place
invariant-loop-place l = l.replies.items ≡ l.initial.replies.items ++ failed l.yielded
