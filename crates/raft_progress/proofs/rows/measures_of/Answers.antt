use Rattle.std.proofs.Common.{sym, refl}
use Rattle.std.proofs.lemmas.List.{take_all}
use Rattle.raft_progress.proofs.Additions.{measures_more}
use Rattle.raft_progress.proofs.rows.measures_of.Goals as goal

pub loop-row-preserved : goal.loop-row-preserved
loop-row-preserved g c =
    rw (c.in_ok-push.ensures.items, c.loop-row.invariant, c.measure_of.ensures)
    (sym (measures_more g.V.Measured.measured c.args.rows.now c.loop-row.row-index c.row-item.result c.loop-row-test.true c.row-item.is))

pub returns : goal.returns
returns g c = rw (c.loop-row.invariant, take_all c.loop-row.row-index c.args.rows.now c.loop-row-test.false) refl
