use Rattle.std.proofs.Common.{Err, Ok, refl}
use Rattle.std.proofs.lemmas.Result.{err_from_is_err_and}
use Rattle.raft_schedule.specs.Text.{plan}
use Rattle.raft_world.proofs.Simulations.{comes_of}
use Rattle.raft_world.proofs.streams.run.Goals as goal

pub returns-in_err-report : goal.returns-in_err-report
returns-in_err-report c =
    let p = err_from_is_err_and c.from_residual-in_err-report.result c.from_residual-in_err-report.ensures.1 in
    rw (p.1, p.2)
    (comes_of (plan c.args.schedule) c.deref.result.now c.deref-2.result.now c.in_ok-world.world c.in_err-report.ensures.0 (Err c.in_err-report.field-0.0) c.deref.ensures.value c.deref-2.ensures.value
    c.in_ok-world.ensures c.in_err-report.ensures.1)

pub returns : goal.returns
returns c =
    comes_of (plan c.args.schedule) c.deref.result.now c.deref-2.result.now c.in_ok-world.world c.in_ok-report.ensures.0
    (Ok (record { language = c.args.schedule.language; report = c.in_ok-report.report; unmet = c.in_ok-report.unmet })) c.deref.ensures.value c.deref-2.ensures.value c.in_ok-world.ensures
    (refl, c.in_ok-report.ensures.1)
