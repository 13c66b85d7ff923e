use Rattle.raft_packed_wire.proofs.Checkpoints.{checkpoints_restore}
use Rattle.raft_packed_wire.proofs.laws.checkpoints_restore.Goals as goal

pub returns : goal.returns
returns c s = checkpoints_restore
