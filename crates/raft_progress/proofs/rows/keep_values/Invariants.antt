use Rattle.std.proofs.Common.{◌≡◌, ◌++◌, take, drop, map}
use Rattle.raft_progress.specs.Table.{kept_row}
use Rattle.raft_progress.proofs.rows.keep_values.Given as goal

abbrev pub invariant-loop-row : goal.invariant-loop-row
invariant-loop-row g l = l.rows ≡ map (kept_row g.ID.Ord.cmp l.old) (take l.row-index l.initial.rows) ++ drop l.row-index l.initial.rows
