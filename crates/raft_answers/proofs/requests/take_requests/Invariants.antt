use Rattle.std.specs.Prelude.{ℕ, ◌≡◌, drop, length, take}
use Rattle.raft_answers.specs.Requests.{batch_of, batched}
use Rattle.raft_answers.proofs.requests.take_requests.Given as goal

abbrev pub invariant-requests : goal.invariant-requests
invariant-requests l = (count : ℕ) × (batched l.batch ≡ batch_of (take count l.fn.waiting.items)) × (l.waiting.items ≡ drop count l.fn.waiting.items)

abbrev pub decreases-requests : goal.decreases-requests
decreases-requests l = length l.waiting.items
