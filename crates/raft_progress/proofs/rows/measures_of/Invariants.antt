use Rattle.std.proofs.Common.{◌≡◌, take}
use Rattle.raft_progress.specs.Table.{measures}
use Rattle.raft_progress.proofs.rows.measures_of.Given as goal

abbrev pub invariant-loop-row : goal.invariant-loop-row
invariant-loop-row g l = l.measured.items ≡ measures g.V.Measured.measured (take l.row-index l.rows)
