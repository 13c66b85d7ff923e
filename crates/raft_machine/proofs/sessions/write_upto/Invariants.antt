use Rattle.std.proofs.Common.{◌≡◌, drop, max}
use Rattle.raft_machine.specs.Bytes.{session}
use Rattle.raft_machine.specs.Pieces.{WritesUpto}
use Rattle.raft_machine.proofs.sessions.write_upto.Given as goal

abbrev pub invariant-loop-client : goal.invariant-loop-client
invariant-loop-client l = record {
  place : drop l.next l.cache.entries ≡ l.client-iterator;
  written : WritesUpto session (drop l.count l.cache.entries) (drop (max l.next l.count) l.cache.entries) l.fn.out.items l.out.items;
}
