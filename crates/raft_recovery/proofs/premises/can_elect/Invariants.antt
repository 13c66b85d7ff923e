use Rattle.std.proofs.Common.{ℕ, ◌≡◌, false, take}
use Rattle.proof_progress.specs.Elections.{Listed}
use Rattle.raft_recovery.specs.Choosing.{can_be_elected}
use Rattle.raft_recovery.proofs.premises.can_elect.Given as goal

-- none before can be elected
abbrev pub invariant-loop-id : goal.invariant-loop-id
invariant-loop-id l = (t : ℕ) → Listed (take l.id-index l.up) t → can_be_elected l.world.history.net.nodes l.up t ≡ false
