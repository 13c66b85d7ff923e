use Rattle.raft_recovery.proofs.Gone.{recoveries_go_on}
use Rattle.raft_recovery.proofs.laws.recoveries_go_on.Goals as goal

pub returns : goal.returns
returns c = recoveries_go_on
