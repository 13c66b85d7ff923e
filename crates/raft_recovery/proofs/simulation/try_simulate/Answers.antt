use Rattle.raft_recovery.proofs.Simulations.{refuses_write}
use Rattle.raft_recovery.proofs.simulation.try_simulate.Goals as goal

pub returns-clause-refused : goal.returns-clause-refused
returns-clause-refused g c = refuses_write _ _ _ c.in_ok-recovery.recovery c.in-Err.failure c.in_ok-recovery.ensures.ok c.in-Err.ensures.err
