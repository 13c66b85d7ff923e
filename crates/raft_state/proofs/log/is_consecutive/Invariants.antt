use Rattle.std.proofs.Common.{◌≡◌, drop}
use Rattle.raft_state.specs.Consecutive.{follow_on}
use Rattle.raft_state.proofs.log.is_consecutive.Given as goal

abbrev pub invariant-loop-id : goal.invariant-loop-id
invariant-loop-id g l = follow_on l.fn.before l.ids ≡ follow_on l.previous (drop l.id-index l.ids)
