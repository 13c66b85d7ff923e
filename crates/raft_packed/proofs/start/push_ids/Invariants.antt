use Rattle.std.proofs.Common.{◌≡◌, ◌++◌, map}
use Rattle.raft_packed.proofs.start.push_ids.Given as goal

abbrev pub invariant-loop-entry : goal.invariant-loop-entry
invariant-loop-entry l = l.ids.items ≡ l.initial.ids.items ++ map (λ e. e.now.log_id) l.yielded
