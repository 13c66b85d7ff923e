use Rattle.std.proofs.Common.{◌++◌, ◌∙◌, ap, codes, sym}
use Rattle.std.specs.Fmt.{decimal}
use Rattle.std.proofs.lemmas.Result.{on_ok_weaker}
use Rattle.raft_world.specs.Printed.{outcome_text}
use Rattle.raft_world.proofs.Lines.{past_printed}
use Rattle.raft_world.proofs.print.print_past.Goals as goal

pub returns-in-Stopped : goal.returns-in-Stopped
returns-in-Stopped g c =
    let told = ap (λ o. outcome_text o ++ (codes " sent " ++ (decimal c.args.past.now.sent ++ codes "\n"))) (sym c.in-Stopped.is) in
    on_ok_weaker _ (past_printed c.args.language c.args.number c.args.past.now _ _ _ _ c.in_ok-print_number.ensures told) c.writeln-in-Stopped.ensures.bytes

pub returns-in-Skipped : goal.returns-in-Skipped
returns-in-Skipped g c =
    let told =
    ap (λ r. codes "skipped " ++ (r ++ (codes " sent " ++ (decimal c.args.past.now.sent ++ codes "\n")))) c.reason_text-reason.ensures
    ∙ ap (λ o. outcome_text o ++ (codes " sent " ++ (decimal c.args.past.now.sent ++ codes "\n"))) (sym c.in-Skipped.is) in
    on_ok_weaker _ (past_printed c.args.language c.args.number c.args.past.now _ _ _ _ c.in_ok-print_number.ensures told) c.writeln-in-Skipped.ensures.bytes
