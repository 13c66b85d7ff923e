use Rattle.raft_chunks.proofs.Runs.{snapshots_arrive}
use Rattle.raft_chunks.proofs.laws.snapshots_arrive.Goals as goal

pub returns : goal.returns
returns c = snapshots_arrive
