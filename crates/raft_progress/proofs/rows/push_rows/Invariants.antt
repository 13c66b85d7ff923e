use Rattle.std.proofs.Common.{◌≡◌, ◌++◌, take}
use Rattle.raft_progress.specs.Table.{rows_of}
use Rattle.raft_progress.proofs.rows.push_rows.Given as goal

abbrev pub invariant-loop-id : goal.invariant-loop-id
invariant-loop-id g l = l.rows.items ≡ l.initial.rows.items ++ rows_of l.v (take l.id-index l.ids)
