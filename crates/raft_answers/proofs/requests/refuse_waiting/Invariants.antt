use Rattle.std.specs.Prelude.{◌≡◌, ◌++◌, length}
use Rattle.raft_answers.specs.Answers.{refused}
use Rattle.raft_answers.proofs.requests.refuse_waiting.Given as goal

abbrev pub invariant-requests : goal.invariant-requests
invariant-requests l = l.replies.items ++ refused l.answer l.waiting.items ≡ l.fn.replies.items ++ refused l.answer l.fn.waiting.items

abbrev pub decreases-requests : goal.decreases-requests
decreases-requests l = length l.waiting.items
