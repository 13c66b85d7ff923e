use Rattle.std.proofs.Common.{◌≡◌, ◌++◌, map}
use Rattle.raft_core.specs.Outputs.{executed_outputs, settled_all}
use Rattle.raft_core.proofs.release.execute_all.Given as goal

abbrev pub invariant-loop-one : goal.invariant-loop-one
invariant-loop-one g l = record {
  left : l.requests ≡ settled_all (map (λ x. x.entry) l.yielded) l.fn.requests;
  outputs : l.outputs.items ≡ l.initial.outputs.items ++ executed_outputs (map (λ x. x.entry) l.yielded) l.fn.requests.proposed;
}
