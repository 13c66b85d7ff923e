use Rattle.std.proofs.Common.{◌≡◌, false}
use Rattle.raft_world.proofs.Stepped.{Left}
use Rattle.raft_world.proofs.run.deliver_all.Given as goal

abbrev pub invariant-next : goal.invariant-next
invariant-next l = (l.world.spent ≡ false) × Left l.fn.world l.most l.world l.left

abbrev pub decreases-next : goal.decreases-next
decreases-next l = l.left
