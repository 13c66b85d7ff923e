use Rattle.std.proofs.Common.{ℕ, ◌≡◌, false, take}
use Rattle.proof_progress.specs.Elections.{Listed}
use Rattle.raft_recovery.specs.Ways.{RecoversBy}
use Rattle.raft_recovery.proofs.recovery.find.Given as goal

-- none before has a way on
abbrev pub invariant-loop-id : goal.invariant-loop-id
invariant-loop-id l =
    l.world.spent ≡ false → (t : ℕ) → Listed (take l.id-index l.up) t → RecoversBy l.world.given l.world.history.net l.up l.value t → ⊥
