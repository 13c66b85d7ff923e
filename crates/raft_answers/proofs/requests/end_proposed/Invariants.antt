use Rattle.std.specs.Prelude.{◌≡◌, ◌++◌, length}
use Rattle.raft_answers.specs.Answers.{ended}
use Rattle.raft_answers.proofs.requests.end_proposed.Given as goal

abbrev pub invariant-proposals : goal.invariant-proposals
invariant-proposals l = l.replies.items ++ ended l.proposed.items ≡ l.fn.replies.items ++ ended l.fn.proposed.items

abbrev pub decreases-proposals : goal.decreases-proposals
decreases-proposals l = length l.proposed.items
