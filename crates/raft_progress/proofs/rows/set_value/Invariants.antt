use Rattle.std.proofs.Common.{◌≡◌, ◌++◌, take, drop, map}
use Rattle.raft_progress.specs.Table.{with_value}
use Rattle.raft_progress.proofs.rows.set_value.Given as goal

abbrev pub invariant-loop-row : goal.invariant-loop-row
invariant-loop-row g l = l.rows ≡ map (with_value g.ID.Ord.cmp l.id l.v) (take l.row-index l.initial.rows) ++ drop l.row-index l.initial.rows
