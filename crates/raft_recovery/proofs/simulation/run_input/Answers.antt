use Rattle.raft_recovery.proofs.Simulations.{stops_running}
use Rattle.raft_recovery.proofs.simulation.run_input.Goals as goal

pub returns : goal.returns
returns g c =
    stops_running _ _ _ _ c.in-Err-run.failure c.deref.ensures.value c.in-Ok.ensures.bytes c.in-Ok-read_schedule.ensures c.in-Err-run.ensures
