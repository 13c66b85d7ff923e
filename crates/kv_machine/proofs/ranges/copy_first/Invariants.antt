use Rattle.std.proofs.Common.{◌≡◌, ◌++◌, ◌+◌, ◌-◌, ◌≤◌, length, take}
use Rattle.std.specs.Prelude.{map}
use Rattle.kv_machine.specs.Ranges.{key_value}
use Rattle.kv_machine.proofs.ranges.copy_first.Given as goal

-- what is left to be copied stands behind what is
abbrev pub invariant-loop-key : goal.invariant-loop-key
invariant-loop-key l = record {
  copied : l.kvs.items ++ take (l.most + 1 - length l.kvs.items) (map key_value l.key-iterator) ≡ take (l.most + 1) (map key_value l.fn.span);
  few : length l.kvs.items ≤ l.most + 1;
}
