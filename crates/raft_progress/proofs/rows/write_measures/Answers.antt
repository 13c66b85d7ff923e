use Rattle.std.proofs.Common.{◌∙◌, sym, ap}
use Rattle.std.proofs.lemmas.List.{length-set, take_all, take_more_set}
use Rattle.raft_progress.specs.Table.{measures}
use Rattle.raft_progress.proofs.Additions.{measures_more}
use Rattle.raft_progress.proofs.rows.write_measures.Goals as goal

pub loop-i-preserved : goal.loop-i-preserved
loop-i-preserved g c =
    let l = c.loop-i in record {
      room = length-set l.measured l.i c.measure_of.result ∙ l.invariant.room;
      written = rw (take_more_set l.measured l.i c.measure_of.result (rw l.invariant.room c.loop-i-test.true), l.invariant.written, c.measure_of.ensures)
          (sym (measures_more g.V.Measured.measured c.args.rows.now l.i c.index-rows-i.result c.loop-i-test.true c.index-rows-i.is));
    }

pub returns : goal.returns
returns g c =
    let l = c.loop-i in
    sym (take_all l.i l.measured (rw l.invariant.room c.loop-i-test.false)) ∙ l.invariant.written ∙ ap (measures g.V.Measured.measured) (take_all l.i c.args.rows.now c.loop-i-test.false)
