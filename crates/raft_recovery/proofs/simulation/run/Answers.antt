use Rattle.std.proofs.Common.{Err, Ok, Option, Some, subst}
use Rattle.raft_schedule.specs.Text.{plan}
use Rattle.raft_world.specs.declared.expected.Unmet.{Unmet}
use Rattle.raft_world.specs.Steps.{RunsSteps}
use Rattle.raft_world.proofs.Simulations.{comes_of}
use Rattle.raft_recovery.proofs.Simulations.{comes_to}
use Rattle.raft_recovery.proofs.simulation.run.Goals as goal

pub returns-in-Err-run_steps : goal.returns-in-Err-run_steps
returns-in-Err-run_steps c =
    comes_of (plan c.args.schedule) c.deref.result.now c.deref-2.result.now c.in-Ok.world c.run_steps.new.world (Err c.in-Err-run_steps.error)
    c.deref.ensures.value c.deref-2.ensures.value c.in-Ok.ensures c.in-Err-run_steps.ensures.runs

pub returns : goal.returns
returns c = (
  c.run_steps.new.world,
  comes_to (plan c.args.schedule) c.deref.result.now c.deref-2.result.now c.in-Ok.world c.run_steps.new.world c.in-Ok-run_steps._report
      (Some c.in-Some.unmet) c.deref.ensures.value c.deref-2.ensures.value c.in-Ok.ensures
      (subst (λ (o : Option Unmet). RunsSteps c.in-Ok.world c.deref-2.result.now (Ok (c.in-Ok-run_steps._report, o)) c.run_steps.new.world)
      c.in-Some.is c.in-Ok-run_steps.ensures.runs),
)
