use Rattle.std.proofs.Common.{◌≡◌, ◌++◌, true, length}
use Rattle.raft_machine.specs.Bytes.{are_distinct}
use Rattle.raft_machine.proofs.sessions.cache_of.Given as goal

abbrev pub invariant-loop-client : goal.invariant-loop-client
invariant-loop-client l = record {
  all : l.entries.items ++ l.cache.entries ≡ l.initial.entries.items;
  cap : l.cache.cap ≡ l.initial.cache.cap;
  distinct : are_distinct l.cache.entries ≡ true;
}

abbrev pub decreases-loop-client : goal.decreases-loop-client
decreases-loop-client l = length l.entries.items
