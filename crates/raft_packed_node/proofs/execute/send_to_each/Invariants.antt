use Rattle.std.proofs.Common.{◌≡◌, ◌++◌, take}
use Rattle.proof_packed.specs.Nodes.{of_no_entries, packed_to_each}
use Rattle.raft_packed_node.proofs.execute.send_to_each.Given as goal

abbrev pub invariant-loop-to : goal.invariant-loop-to
invariant-loop-to g l =
    l.records ≡ record l.initial.records {
      bag = l.initial.records.bag ++ packed_to_each g.M.Machine.application l.id (take l.to-index l.ids) (l.body, of_no_entries g.M.Machine.application);
    }
