use Rattle.std.proofs.Common.{◌≡◌, ◌++◌}
use Rattle.raft_core.specs.Outputs.{reads_out}
use Rattle.raft_core.proofs.release.read_all.Given as goal

abbrev pub invariant-loop-reply : goal.invariant-loop-reply
invariant-loop-reply g l = l.outputs.items ≡ l.initial.outputs.items ++ reads_out l.yielded
