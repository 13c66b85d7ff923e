use Rattle.std.proofs.Common.{◌≡◌, ◌++◌, ◌+◌, ◌-◌, ◌≤◌, take, length}
use Rattle.raft_state.proofs.log.push_all.Given as goal

abbrev pub invariant-loop-item : goal.invariant-loop-item
invariant-loop-item g l = record {
  grown : l.items.items ≡ l.initial.items.items ++ take l.item-index l.more;
  room : l.items.len + (length l.more - l.item-index) ≤ l.items.cap;
}
