use Rattle.std.proofs.Common.{sym, refl}
use Rattle.std.proofs.lemmas.List.{take_all}
use Rattle.raft_progress.proofs.Additions.{rows_more}
use Rattle.raft_progress.proofs.rows.push_rows.Goals as goal

pub loop-id-preserved : goal.loop-id-preserved
loop-id-preserved g c =
    rw (c.in_ok-push.ensures.items, c.loop-id.invariant)
    (sym (rows_more c.args.v c.args.rows.now.items c.args.ids.now c.loop-id.id-index c.id-item.result c.loop-id-test.true c.id-item.is))

pub returns : goal.returns
returns g c = rw (c.loop-id.invariant, take_all c.loop-id.id-index c.args.ids.now c.loop-id-test.false) refl
