use Rattle.raft_connection.proofs.Numbered.{handed_out_waits}
use Rattle.raft_connection.proofs.laws.handed_out_waits.Goals as goal

pub returns : goal.returns
returns c = handed_out_waits
