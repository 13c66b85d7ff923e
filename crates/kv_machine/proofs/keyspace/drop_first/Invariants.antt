use Rattle.std.proofs.Common.{◌≡◌, drop}
use Rattle.kv_machine.proofs.keyspace.drop_first.Given as goal

abbrev pub invariant-loop-left : goal.invariant-loop-left
invariant-loop-left l = drop l.left l.revisions.items ≡ drop l.initial.left l.initial.revisions.items

abbrev pub decreases-loop-left : goal.decreases-loop-left
decreases-loop-left l = l.left
