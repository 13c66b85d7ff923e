use Rattle.std.proofs.Common.{◌≡◌, take}
use Rattle.raft_calls.proofs.bag.copy_messages.Given as goal

abbrev pub invariant-loop-one : goal.invariant-loop-one
invariant-loop-one l = l.copied ≡ take l.one-index l.from
