use Rattle.std.proofs.Common.{map}
use Rattle.raft_core.specs.Steps.{TakesActs, act_of}
use Rattle.raft_core.proofs.steps.take_all.Given as goal

abbrev pub invariant-loop-chosen : goal.invariant-loop-chosen
invariant-loop-chosen g l = TakesActs g.M.Machine.application l.clock.moment (map act_of l.yielded) l.fn.server l.server
