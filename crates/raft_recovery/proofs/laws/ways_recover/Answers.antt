use Rattle.raft_recovery.proofs.Recovering.{ways_recover}
use Rattle.raft_recovery.proofs.Missing.{some_recover}
use Rattle.raft_recovery.proofs.laws.ways_recover.Goals as goal

pub returns : goal.returns
returns c = ways_recover
