use Rattle.std.proofs.Common.{◌≡◌, drop, false}
use Rattle.raft_world.specs.Worlds.{IsMade}
use Rattle.raft_world.proofs.Stepped.{StepsLeft}
use Rattle.raft_world.proofs.run.take_steps.Given as goal

abbrev pub invariant-loop-numbered : goal.invariant-loop-numbered
invariant-loop-numbered l = (l.world.spent ≡ false) × IsMade l.world.given × StepsLeft l.initial.world l.steps l.world (drop l.numbered-index l.steps)
