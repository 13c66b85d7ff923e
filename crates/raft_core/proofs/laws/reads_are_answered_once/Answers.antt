use Rattle.raft_core.proofs.ReadsTold.{reads_are_answered_once}
use Rattle.raft_core.proofs.laws.reads_are_answered_once.Goals as goal

pub returns : goal.returns
returns g c = reads_are_answered_once g.M.Machine.application g.M.Machine.codec
