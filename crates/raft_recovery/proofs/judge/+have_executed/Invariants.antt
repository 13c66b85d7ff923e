use Rattle.std.proofs.Common.{length}
use Rattle.raft_recovery.proofs.judge.+have_executed.Given as goal

abbrev pub decreases-have_executed : goal.decreases-have_executed
decreases-have_executed l = length l.ids.now
