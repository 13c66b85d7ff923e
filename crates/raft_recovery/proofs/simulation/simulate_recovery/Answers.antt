use Rattle.std.proofs.Common.{subst}
use Rattle.raft_recovery.specs.Simulated.{StatusOf}
use Rattle.raft_recovery.proofs.Simulations.{status_of}
use Rattle.raft_recovery.proofs.simulation.simulate_recovery.Goals as goal

pub returns : goal.returns
returns g c =
    subst (λ s. StatusOf (g.R.Read.remaining s.inner) c.args.up.now c.args.value.now c.simulate_recovery_into-status.result.0) c.new-input.ensures
    (status_of _ _ _ _ _ _ _ _ _ c.simulate_recovery_into-status.ensures)
