use Rattle.std.proofs.Common.{map, ap, ◌++◌, ◌∙◌}
use Rattle.raft_world.proofs.Lines.{item_added, items_added}
use Rattle.raft_world.proofs.print.all_lines.Goals as goal

pub loop-executed-preserved : goal.loop-executed-preserved
loop-executed-preserved c =
    item_added (λ x. record { node = x.node; entry = x.entry }) c.executed-executed-items.result.now c.loop-executed.executed-index c.executed-item.result _ _
    c.loop-executed-test.true c.executed-item.is c.loop-executed.invariant c.in_ok-push.ensures.items

pub loop-installed-preserved : goal.loop-installed-preserved
loop-installed-preserved c =
    items_added (λ x. map (λ e. record { node = x.node; entry = e }) x.entries) _ c.installed-installed-items.result.now c.loop-installed.installed-index c.installed-item.result _ _
    c.loop-installed-test.true c.installed-item.is c.loop-installed.invariant
    (c.in_ok-push_lines.ensures ∙ ap (λ es. c.loop-installed.lines.items ++ map (λ e. record { node = c.installed-item.result.node; entry = e }) es) c.as_slice.ensures)
