use Rattle.std.proofs.Common.{◌≡◌, ◌++◌}
use Rattle.std.specs.List.{AllByRecursion, flat_map}
use Rattle.raft_machine.specs.Bytes.{entry}
use Rattle.raft_machine.proofs.table.write_each.Given as goal

-- what is left is written behind what is
abbrev pub invariant-loop-key : goal.invariant-loop-key
invariant-loop-key l =
    let all = l.entries.entries in
    let left = l.key-iterator in
    record {
      fit : AllByRecursion entry.fits left → AllByRecursion entry.fits all;
      written : l.out.items ++ flat_map entry.bytes left ≡ l.fn.out.items ++ flat_map entry.bytes all;
    }
