use Rattle.std.proofs.Common.{◌≡◌}
use Rattle.raft_peers.proofs.prepare.Preparing.encode_front.Given as goal

abbrev pub invariant-loop : goal.invariant-loop
invariant-loop g l = l.one ≡ l.fn.self
