use Rattle.std.proofs.Common.{◌≡◌, ◌-◌, length}
use Rattle.raft_machine.specs.Cursors.{AreBytes, cursor_of}
use Rattle.raft_machine.proofs.Digits.{Reads, ReadsHeads}
use Rattle.raft_machine.proofs.cursors.split_word.Given as goal

abbrev pub invariant-loop : goal.invariant-loop
invariant-loop l = record {
  word : Reads (8 - l.counter) l.word l.rest (cursor_of l.bytes);
  heads : ReadsHeads l.counter l.word l.rest l.bytes;
  bytes : AreBytes l.rest → AreBytes l.bytes;
  left : length l.rest ≡ length l.bytes - l.counter;
}
