use Rattle.std.proofs.Common.{◌≡◌, ◌+◌, drop}
use Rattle.raft_connection.specs.Pending.{ready_total}
use Rattle.raft_connection.proofs.pending.Pending.holds.Given as goal

abbrev pub invariant-loop-place : goal.invariant-loop-place
invariant-loop-place l = ready_total l.self.slots + l.left ≡ l.count + ready_total (drop l.place l.self.slots)
