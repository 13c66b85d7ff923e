use Rattle.std.proofs.Common.{◌≡◌, ◌+◌, drop}
use Rattle.raft_world.specs.Undelivered.{first_from, is_delivered, is_of}
use Rattle.raft_world.proofs.past.Past.oldest.Given as goal

abbrev pub invariant-loop-message : goal.invariant-loop-message
invariant-loop-message l =
    (l.number ≡ l.message-index)
    × (first_from (l.message-index + 1) (is_of l.link) (is_delivered l.self) (drop l.message-index l.messages) ≡ first_from 1 (is_of l.link) (is_delivered l.self) l.messages)
