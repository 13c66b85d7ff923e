use Rattle.raft_service.specs.Delivering.{DeliversAll}
use Rattle.raft_service.proofs.service.Service.deliver_each.Given as goal

abbrev pub invariant-loop-output : goal.invariant-loop-output
invariant-loop-output l = DeliversAll l.yielded l.fn.self l.fn.outputs.items l.self l.outputs.items
