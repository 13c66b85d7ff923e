use Rattle.std.proofs.Common.{subst}
use Rattle.raft_world.specs.Simulated.{StatusOf}
use Rattle.raft_world.proofs.Simulations.{answers_anyhow}
use Rattle.raft_world.proofs.streams.simulate.Goals as goal

pub returns : goal.returns
returns g c =
    let done = c.simulate_into-status.ensures in
    subst (λ s. StatusOf (g.R.Read.remaining s.inner) c.simulate_into-status.result.0) c.new-input.ensures (done.0, done.1, (_, answers_anyhow _ _ _ _ _ _ done.3))
