use Rattle.std.proofs.Common.{◌≡◌, ◌++◌}
use Rattle.std.specs.List.{AllByRecursion, flat_map}
use Rattle.raft_machine.specs.Bytes.{session}
use Rattle.raft_machine.proofs.sessions.write_each.Given as goal

-- what is left is written behind what is
abbrev pub invariant-loop-client : goal.invariant-loop-client
invariant-loop-client l = record {
  fit : AllByRecursion session.fits l.client-iterator → AllByRecursion session.fits l.cache.entries;
  written : l.out.items ++ flat_map session.bytes l.client-iterator ≡ l.fn.out.items ++ flat_map session.bytes l.cache.entries;
}
