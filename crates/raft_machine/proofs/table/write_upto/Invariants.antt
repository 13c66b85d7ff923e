use Rattle.std.proofs.Common.{◌≤◌, length}
use Rattle.raft_machine.specs.Bytes.{entry}
use Rattle.raft_machine.specs.Pieces.{EndsWith, WritesUpto}
use Rattle.raft_machine.proofs.table.write_upto.Given as goal

abbrev pub invariant-loop-key : goal.invariant-loop-key
invariant-loop-key l = record {
  behind : EndsWith l.fn.entries l.key-iterator;
  written : WritesUpto entry l.fn.entries l.key-iterator l.fn.out.items l.out.items;
  more : length l.fn.out.items ≤ length l.out.items;
}
