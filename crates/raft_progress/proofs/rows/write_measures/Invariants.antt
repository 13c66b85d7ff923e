use Rattle.std.proofs.Common.{◌≡◌, length, take}
use Rattle.raft_progress.specs.Table.{measures}
use Rattle.raft_progress.proofs.rows.write_measures.Given as goal

abbrev pub invariant-loop-i : goal.invariant-loop-i
invariant-loop-i g l = record {
  room : length l.measured ≡ length l.rows;
  written : take l.i l.measured ≡ measures g.V.Measured.measured (take l.i l.rows);
}
