use Rattle.std.proofs.Common.{◌≡◌, ◌<◌, ◌+◌, ◌-◌, ◌^◌}
use Rattle.raft_codec.specs.Codec.{leb128_at}
use Rattle.raft_codec.proofs.Numbers.{behind}
use Rattle.raft_codec.proofs.reader.Reader.leb128.Given as goal

abbrev pub invariant-loop : goal.invariant-loop
invariant-loop l = record {
  unit : l.unit ≡ 128 ^ (l.counter + 1);
  low : l.number < l.unit;
  all : behind l.number l.unit (leb128_at (8 - l.counter) l.self) ≡ leb128_at 9 l.fn.self;
}
