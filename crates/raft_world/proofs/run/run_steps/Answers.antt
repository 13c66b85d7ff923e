use Rattle.std.proofs.Common.{◌≡◌, ◌∙◌, Ok, ap, subst, sym}
use Rattle.raft_world.specs.declared.error.WorldError.{WorldError}
use Rattle.raft_world.specs.Worlds.{IsMade, WorldView, events_in}
use Rattle.raft_world.proofs.Along.{report_agrees}
use Rattle.raft_world.proofs.Safe.{is_safe}
use Rattle.raft_world.proofs.run.run_steps.Goals as goal

pub returns-in-Err-clause-safe : goal.returns-in-Err-clause-safe
returns-in-Err-clause-safe c = is_safe c.take_steps.new.world.given c.take_steps.ensures.made (events_in c.take_steps.new.world)

pub returns-in-Ok-report-clause-agree : goal.returns-in-Ok-report-clause-agree
returns-in-Ok-report-clause-agree c =
    let here : c.take_steps.new.world.spent ≡ _ = ap (λ (w : WorldView). w.spent) c.in-Ok.ensures.takes.0.2 ∙ c.in-Ok.ensures.takes.0.0 in
    let made = subst (λ (w : WorldView). IsMade w.given) (sym c.in-Ok-report.ensures.told.1) c.take_steps.ensures.made in
    report_agrees {E = WorldError} c.report.new.self (Ok c.in-Ok-report.report) made (c.in-Ok-report.ensures.run here)

pub returns-in-Ok-report-clause-safe : goal.returns-in-Ok-report-clause-safe
returns-in-Ok-report-clause-safe c =
    let made = subst (λ (w : WorldView). IsMade w.given) (sym c.in-Ok-report.ensures.told.1) c.take_steps.ensures.made in
    is_safe c.report.new.self.given made (events_in c.report.new.self)

pub returns-in-Err-report-clause-safe : goal.returns-in-Err-report-clause-safe
returns-in-Err-report-clause-safe c =
    let made = subst IsMade (sym c.in-Err-report.ensures.told.1.0) c.take_steps.ensures.made in
    is_safe c.report.new.self.given made (events_in c.report.new.self)
