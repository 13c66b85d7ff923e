use Rattle.std.proofs.Common.{rules}
use Rattle.raft_engine.proofs.leader_calls.update_local_progress.Goals as goal

pub returns-clause-step : goal.returns-clause-step
returns-clause-step g c = search rules
