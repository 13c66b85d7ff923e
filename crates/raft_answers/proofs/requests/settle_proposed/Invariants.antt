use Rattle.std.specs.Prelude.{◌≡◌, ◌++◌, length}
use Rattle.raft_answers.specs.Answers.{settled_left, settled_replies}
use Rattle.raft_answers.proofs.requests.settle_proposed.Given as goal

abbrev pub invariant-proposals : goal.invariant-proposals
invariant-proposals l =
    (settled_left l.id.index l.proposed.items ≡ settled_left l.id.index l.fn.proposed.items)
    × (l.replies.items ++ settled_replies l.id l.proposed.items ≡ l.fn.replies.items ++ settled_replies l.id l.fn.proposed.items)

abbrev pub decreases-proposals : goal.decreases-proposals
decreases-proposals l = length l.proposed.items
