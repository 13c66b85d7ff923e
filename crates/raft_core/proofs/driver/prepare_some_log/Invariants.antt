use Rattle.std.proofs.Common.{◌≡◌}
use Rattle.raft_core.proofs.driver.prepare_some_log.Given as goal

abbrev pub invariant-loop : goal.invariant-loop
invariant-loop g l = l.server ≡ l.initial.server
