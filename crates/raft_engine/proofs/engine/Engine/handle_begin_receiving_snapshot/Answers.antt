use Rattle.std.proofs.Common.{rules}
use Rattle.raft_steps.specs.SnapshotCalls.{handle_begin_receiving_snapshot}
use Rattle.raft_engine.proofs.engine.Engine.handle_begin_receiving_snapshot.Goals as goal

pub returns-clause-step : goal.returns-clause-step
unfolding handle_begin_receiving_snapshot
returns-clause-step g c = search rules
