use Rattle.std.proofs.Common.{◌≡◌, ◌++◌, take, map}
use Rattle.raft_world.proofs.print.push_lines.Given as goal

abbrev pub invariant-loop-entry : goal.invariant-loop-entry
invariant-loop-entry l = l.lines.items ≡ l.initial.lines.items ++ map (λ e. record { node = l.node; entry = e }) (take l.entry-index l.entries)
