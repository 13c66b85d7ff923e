use Rattle.std.proofs.Common.{Err, arith, length, refl, subst, sym, true}
use Rattle.raft_world.specs.declared.error.WorldError.{WorldError}
use Rattle.raft_world.specs.Steps.{events_of_steps}
use Rattle.raft_world.specs.Worlds.{RunsAll, WorldView}
use Rattle.raft_world.proofs.run.run_to_end.Goals as goal

-- all was run, and the world is spent
pub returns-in-Err-into_report : goal.returns-in-Err-into_report
returns-in-Err-into_report c =
    let old = c.args.world in
    let es = events_of_steps old.given c.args.steps.now old.history in
    subst (λ (e : WorldError). (after : WorldView) × RunsAll old es (Err e) after) (sym c.in-Err-into_report.ensures)
    (record old { spent = true }, (length es, omega arith, c.in-Ok.ensures.takes.0.1, λ l q. omega (arith, l), (refl, refl)))
