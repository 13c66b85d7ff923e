use Rattle.std.proofs.Common.{refl, sym, subst, ap, ◌∙◌}
use Rattle.std.specs.Prelude.{Some}
use Rattle.std.proofs.KnownBytes.{Appends-nil}
use Rattle.std.specs.Io.KnownBytes.{Appends}
use Rattle.raft_world.specs.Printed.{place}
use Rattle.raft_world.proofs.Lines.{line_added}
use Rattle.raft_world.proofs.Grouped.{lines_ended, ends_some, ends_none}
use Rattle.raft_world.proofs.print.print_lines.Goals as goal

pub loop-line-init : goal.loop-line-init
loop-line-init g c = (Appends-nil _, refl)

pub loop-line-preserved : goal.loop-line-preserved
loop-line-preserved g c =
    let k = line_added c.args.lines.now c.loop-line.line-index c.line-item.result _ _ _ c.loop-line.before c.loop-line-test.true
    c.line-item.is c.loop-line.invariant.0 c.loop-line.invariant.1 c.in_ok-print_next.ensures in
    (k.0, ap (λ t. Some (place t)) c.line.view_is ∙ k.1)

pub returns-in_ok-writeln : goal.returns-in_ok-writeln
returns-in_ok-writeln g c =
    lines_ended c.args.lines.now c.loop-line.line-index _ _ _ c.loop-line.before c.requires c.loop-line-test.false c.loop-line.invariant.0 c.loop-line.invariant.1
    (subst (Appends _ _) (sym (ends_some c.loop-line.before (sym c.if-is_some.ensures))) c.in_ok-writeln.ensures.bytes)

pub returns-else-is_some : goal.returns-else-is_some
returns-else-is_some g c =
    lines_ended c.args.lines.now c.loop-line.line-index _ _ _ c.loop-line.before c.requires c.loop-line-test.false c.loop-line.invariant.0 c.loop-line.invariant.1
    (subst (Appends _ _) (sym (ends_none c.loop-line.before (sym c.if-is_some.ensures))) (Appends-nil _))
