use Rattle.std.proofs.Common.{rules, sym, ap, ◌∙◌, ◌≡◌, map}
use Rattle.std.proofs.lemmas.List.{take_all, drop_all, append-nil}
use Rattle.std.proofs.lemmas.List.Edits.{map_over_more}
use Rattle.raft_progress.specs.Table.{kept_row}
use Rattle.raft_progress.proofs.rows.keep_values.Goals as goal

pub loop-row-preserved : goal.loop-row-preserved
loop-row-preserved g c =
    let place = kept_row g.ID.Ord.cmp c.args.old.now in
    let set : c.keep_value.new.row ≡ place c.row-item.result = c.keep_value.ensures ∙ ap place (sym c.row-item.is) in
    rw set (map_over_more place c.args.rows.now c.loop-row.rows c.loop-row.row-index c.row-item.result (search rules) c.loop-row.invariant c.row-item.is)

pub returns : goal.returns
returns g c =
    rw (c.loop-row.invariant, take_all c.loop-row.row-index c.args.rows.now c.loop-row-test.false, drop_all c.loop-row.row-index c.args.rows.now c.loop-row-test.false)
    (append-nil (map (kept_row g.ID.Ord.cmp c.args.old.now) c.args.rows.now))
