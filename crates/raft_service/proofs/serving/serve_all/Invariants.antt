use Rattle.raft_service.specs.Serving.{ServesAll}
use Rattle.raft_service.proofs.serving.serve_all.Given as goal

abbrev pub invariant-loop-client : goal.invariant-loop-client
invariant-loop-client l = ServesAll l.yielded l.fn.clients l.fn.intake l.fn.outputs.items l.clients l.intake l.outputs.items
