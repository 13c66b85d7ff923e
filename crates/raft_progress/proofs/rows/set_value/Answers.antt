use Rattle.std.proofs.Common.{rules, sym, ap, ◌∙◌, ◌≡◌, map}
use Rattle.std.proofs.lemmas.List.{take_all, drop_all, append-nil}
use Rattle.std.proofs.lemmas.List.Edits.{map_over_more}
use Rattle.raft_progress.specs.Table.{with_value}
use Rattle.raft_progress.proofs.rows.set_value.Goals as goal

pub loop-row-preserved : goal.loop-row-preserved
loop-row-preserved g c =
    let place = with_value g.ID.Ord.cmp c.args.id.now c.args.v in
    let set : c.set_row.new.row ≡ place c.row-item.result = c.set_row.ensures ∙ ap place (sym c.row-item.is) in
    rw set (map_over_more place c.args.rows.now c.loop-row.rows c.loop-row.row-index c.row-item.result (search rules) c.loop-row.invariant c.row-item.is)

pub returns : goal.returns
returns g c =
    rw (c.loop-row.invariant, take_all c.loop-row.row-index c.args.rows.now c.loop-row-test.false, drop_all c.loop-row.row-index c.args.rows.now c.loop-row-test.false)
    (append-nil (map (with_value g.ID.Ord.cmp c.args.id.now c.args.v) c.args.rows.now))
