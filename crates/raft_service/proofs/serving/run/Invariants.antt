use Rattle.std.proofs.Common.{ℕ}
use Rattle.raft_service.specs.Serving.{Rounds, front}
use Rattle.raft_service.proofs.serving.run.Given as goal

abbrev pub invariant-loop : goal.invariant-loop
invariant-loop l = (n : ℕ) × Rounds l.client n (front l.fn.clients l.fn.intake l.fn.sent.items) (front l.clients l.intake l.sent.items)
