use Rattle.std.proofs.Common.{length}
use Rattle.raft_recovery.proofs.premises.+repeated.Given as goal

abbrev pub decreases-repeated : goal.decreases-repeated
decreases-repeated l = length l.up.now
