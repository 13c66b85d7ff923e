use Rattle.raft_executor.proofs.Snapshots.{snapshots}
use Rattle.raft_executor.proofs.laws.snapshots_are_what_was_executed.Goals as goal

pub returns : goal.returns
returns c = snapshots
