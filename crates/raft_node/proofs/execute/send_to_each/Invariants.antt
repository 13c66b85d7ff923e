use Rattle.std.proofs.Common.{◌≡◌, ◌++◌, take}
use Rattle.raft_node.specs.Execute.{to_each}
use Rattle.raft_node.proofs.execute.send_to_each.Given as goal

abbrev pub invariant-loop-to : goal.invariant-loop-to
invariant-loop-to l = l.records ≡ record l.initial.records { bag = l.initial.records.bag ++ to_each l.id (take l.to-index l.ids) l.body }
