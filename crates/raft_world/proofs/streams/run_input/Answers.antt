use Rattle.raft_world.proofs.Simulations.{fails_running}
use Rattle.raft_world.proofs.streams.run_input.Goals as goal

pub returns-clause-runs : goal.returns-clause-runs
returns-clause-runs g c = fails_running _ _ _ _ c.in-Err-run.error c.deref.ensures.value c.in-Ok.ensures.bytes c.in-Ok-read_schedule.ensures c.in-Err-run.ensures
