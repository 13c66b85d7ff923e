use Rattle.std.proofs.Common.{ap, ◌∙◌, length, arith}
use Rattle.raft_progress.proofs.Additions.{rows_long}
use Rattle.raft_progress.proofs.table.VecProgress.new.Goals as goal

pub of_rows-requires-clause-rows : goal.of_rows-requires-clause-rows
of_rows-requires-clause-rows g c =
    let long = ap (λ rows. length rows) c.in_ok-rows.ensures ∙ rows_long c.args.default c.deref-2.result.now c.deref-3.result.now in
    omega (arith, c.len-voters.ensures, long, c.deref-2.ensures.len, c.in_ok-rows.rows.ok.0)

pub of_rows-requires-clause-room : goal.of_rows-requires-clause-room
of_rows-requires-clause-room g c = omega (arith, c.len-voters.ensures)
