use Rattle.std.specs.Prelude.{◌≡◌, ◌++◌, length}
use Rattle.std.specs.List.{take_while}
use Rattle.raft_answers.specs.Answers.{ended, proposed_left, proposed_upto}
use Rattle.raft_answers.proofs.requests.expire_proposed.Given as goal

abbrev pub invariant-proposals : goal.invariant-proposals
invariant-proposals l =
    (proposed_left l.upto l.proposed.items ≡ proposed_left l.upto l.fn.proposed.items)
    × (l.replies.items ++ ended (take_while (proposed_upto l.upto) l.proposed.items)
    ≡ l.fn.replies.items ++ ended (take_while (proposed_upto l.upto) l.fn.proposed.items))

abbrev pub decreases-proposals : goal.decreases-proposals
decreases-proposals l = length l.proposed.items
