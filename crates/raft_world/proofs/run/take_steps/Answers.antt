use Rattle.std.proofs.Common.{◌∙◌, Err, ap, arith, subst, sym}
use Rattle.raft_world.specs.Steps.{HasRun, RunsTo, events_of_step}
use Rattle.raft_world.specs.Worlds.{IsMade, WorldView}
use Rattle.raft_world.proofs.Stepped.{steps_done, steps_more, steps_stopped, steps_unmet, steps_untold}
use Rattle.raft_world.proofs.run.take_steps.Goals as goal

pub returns-in-Ok-Some-clause-takes : goal.returns-in-Ok-Some-clause-takes
returns-in-Ok-Some-clause-takes c =
    steps_unmet c.args.world.now c.loop-numbered.world c.unmet.new.self c.args.steps.now c.loop-numbered.numbered-index c.numbered-item.result c.in-Ok-Some.unmet c.loop-numbered-test.true
    c.numbered-item.is c.loop-numbered.invariant.0 (sym c.in-Ok-Some.field-0-is ∙ c.in-Ok-Some.ensures.0, c.in-Ok-Some.ensures.1) c.loop-numbered.invariant.2

pub returns-in-Err-clause-takes : goal.returns-in-Err-clause-takes
returns-in-Err-clause-takes c =
    steps_untold c.args.world.now c.loop-numbered.world c.unmet.new.self c.args.steps.now c.loop-numbered.numbered-index c.numbered-item.result c.in-Err.error c.loop-numbered-test.true
    c.numbered-item.is c.in-Err.ensures c.loop-numbered.invariant.2

pub returns-in-Err-take_step-clause-takes : goal.returns-in-Err-take_step-clause-takes
returns-in-Err-take_step-clause-takes c =
    let stops =
    subst (λ (v : WorldView). RunsTo v (events_of_step v.given c.numbered-item.result.step v.history) (Err c.in-Err-take_step.error) c.take_step.new.world) c.in-Ok-None.ensures.1
    c.in-Err-take_step.ensures in
    steps_stopped c.args.world.now c.loop-numbered.world c.take_step.new.world c.args.steps.now c.loop-numbered.numbered-index c.numbered-item.result c.in-Err-take_step.error
    c.loop-numbered-test.true c.numbered-item.is (sym c.in-Ok-None.ensures.0 ∙ c.in-Ok-None.field-0-is) stops c.loop-numbered.invariant.2

pub loop-numbered-preserved : goal.loop-numbered-preserved
loop-numbered-preserved c =
    let ran =
    subst (λ (v : WorldView). HasRun v (events_of_step v.given c.numbered-item.result.step v.history) c.take_step.new.world) c.in-Ok-None.ensures.1 c.in_default.ensures in (
      ap (λ (w : WorldView). w.spent) ran.2 ∙ c.loop-numbered.invariant.0,
      subst IsMade (sym (ap (λ (w : WorldView). w.given) ran.2)) c.loop-numbered.invariant.1,
      steps_more c.args.world.now c.loop-numbered.world c.take_step.new.world c.args.steps.now c.loop-numbered.numbered-index c.numbered-item.result c.loop-numbered-test.true c.numbered-item.is
          (sym c.in-Ok-None.ensures.0 ∙ c.in-Ok-None.field-0-is) ran c.loop-numbered.invariant.2,
    )

pub returns-clause-takes : goal.returns-clause-takes
returns-clause-takes c =
    steps_done c.args.world.now c.loop-numbered.world c.args.steps.now c.loop-numbered.numbered-index (omega (arith, c.loop-numbered-test.false)) c.loop-numbered.invariant.0 c.loop-numbered.invariant.2
