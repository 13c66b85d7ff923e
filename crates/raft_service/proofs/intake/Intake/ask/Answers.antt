use Rattle.std.proofs.Common.{OnOk, Result, subst}
use Rattle.raft_core.specs.declared.error.RequestError.{RequestError}
use Rattle.raft_service.specs.Intake.{AdmitsBy}
use Rattle.raft_service.proofs.Planned.{admitted_as, asked_by}
use Rattle.raft_service.proofs.intake.Intake.ask.Goals as goal

pub returns : goal.returns
returns c =
    let s = c.args.self.now in
    let plan = c.in_ok-wanted.field-0 in
    admitted_as s c.admit.new.self c.args.client c.args.asked c.args.is_alone c.goes_by_round-by_round.result plan _
    c.goes_by_round-by_round.ensures c.in_ok-wanted.ensures
    (subst (λ (r : Result (Unit {0}) RequestError). OnOk r (AdmitsBy plan.way (asked_by s c.args.client c.args.asked plan) s c.admit.new.self))
    c.in_default.is c.in_ok-error.ensures.taken)
