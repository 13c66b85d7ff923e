use Rattle.std.proofs.Common.{◌≡◌, filter, take}
use Rattle.raft_recovery.specs.Choosing.{follows}
use Rattle.raft_recovery.proofs.premises.followers.Given as goal

abbrev pub invariant-loop-id : goal.invariant-loop-id
invariant-loop-id l = l.ids.items ≡ filter (follows l.world.history.net.nodes l.found) (take l.id-index l.up)
