use Rattle.std.proofs.Common.{◌≡◌, ◌++◌, map}
use Rattle.raft_peers.specs.Frames.{asked}
use Rattle.raft_peers.proofs.frame.ask_all.Given as goal

abbrev pub invariant-loop-one : goal.invariant-loop-one
invariant-loop-one g l = l.outputs.items ≡ l.initial.outputs.items ++ map asked l.yielded
