use Rattle.std.proofs.Common.{◌≡◌, drop}
use Rattle.raft_store.proofs.ring.drop_first.Given as goal

abbrev pub invariant-loop : goal.invariant-loop
invariant-loop l = l.items.items ≡ drop l.counter l.initial.items.items
