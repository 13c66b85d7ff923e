use Rattle.std.proofs.Common.{◌≡◌, ◌+◌, ◌-◌, ℕ, false, get_or, length}
use Rattle.raft_world.proofs.past.make_room.Given as goal

abbrev pub invariant-grow : goal.invariant-grow
invariant-grow l = (k : ℕ) → get_or l.marks.items k false ≡ get_or l.fn.marks.items k false

abbrev pub decreases-grow : goal.decreases-grow
decreases-grow l = (l.place + 1) - length l.marks.items
