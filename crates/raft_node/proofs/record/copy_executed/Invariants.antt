use Rattle.std.proofs.Common.{◌≡◌, take}
use Rattle.raft_node.proofs.record.copy_executed.Given as goal

abbrev pub invariant-loop-one : goal.invariant-loop-one
invariant-loop-one l = l.copied.items ≡ take l.one-index l.from
