use Rattle.std.specs.Prelude.{◌≡◌, ◌++◌, drop, length}
use Rattle.std.specs.List.{prefix_len, take_while}
use Rattle.raft_answers.specs.declared.answer.Answer.TheVariants.{Failed}
use Rattle.raft_answers.specs.Answers.{came_upto, refused}
use Rattle.raft_answers.proofs.requests.expire_waiting.Given as goal

abbrev pub invariant-requests : goal.invariant-requests
invariant-requests l =
    (drop (prefix_len (came_upto l.upto) l.waiting.items) l.waiting.items
    ≡ drop (prefix_len (came_upto l.upto) l.fn.waiting.items) l.fn.waiting.items)
    × (l.replies.items ++ refused Failed (take_while (came_upto l.upto) l.waiting.items)
    ≡ l.fn.replies.items ++ refused Failed (take_while (came_upto l.upto) l.fn.waiting.items))

abbrev pub decreases-requests : goal.decreases-requests
decreases-requests l = length l.waiting.items
