use Rattle.std.specs.List.{AllAdjacentBelow}
use Rattle.raft_world.specs.Clashes.{Apart}
use Rattle.raft_world.proofs.agreement.first_clash.Given as goal

abbrev pub invariant-loop-i : goal.invariant-loop-i
invariant-loop-i l = AllAdjacentBelow Apart l.table l.i
