use Rattle.std.proofs.lemmas.Result.{on_ok_weaker}
use Rattle.raft_world.proofs.Lines.{printed}
use Rattle.raft_world.proofs.print.print_report.Goals as goal

pub returns : goal.returns
returns g c =
    on_ok_weaker _ (printed c.args.language c.args.report.now _ _ _ _ _ c.in_ok-lines.lines.items _ _ c.past.ensures c.in_ok-lines.ensures c.deref.ensures.value
    c.check_agreement.ensures c.in_ok-print_pasts.ensures c.in_ok-print_lines.ensures) c.print_agreement.ensures
