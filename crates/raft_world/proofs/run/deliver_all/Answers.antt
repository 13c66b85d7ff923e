use Rattle.std.proofs.Common.{◌-◌, ◌∙◌, Err, Ok, ap, arith, subst, sym}
use Rattle.raft_schedule.specs.declared.event.Event.{Event}
use Rattle.raft_world.specs.Worlds.{Applies, WorldView}
use Rattle.raft_world.proofs.Stepped.{left_done, left_more, left_none, left_refused}
use Rattle.raft_world.proofs.run.deliver_all.Goals as goal

pub returns-in_default : goal.returns-in_default
returns-in_default c =
    left_none c.args.world.now c.next.world c.args.most c.next.left (c.next.left - 1) (omega (arith, c.next-test.true)) (sym c.oldest_undelivered.ensures ∙ c.in_default.is) c.next.invariant.0 c.next.invariant.1

pub returns-in-Err : goal.returns-in-Err
returns-in-Err c =
    let does = subst (λ (e : Event). Applies c.next.world e (Err c.in-Err.error) c.apply.new.self) c.delivery.ensures c.in-Err.ensures.does in
    left_refused c.args.world.now c.next.world c.apply.new.self c.args.most c.next.left (c.next.left - 1) c.in-Some.number c.in-Err.error (omega (arith, c.next-test.true))
    (sym c.oldest_undelivered.ensures ∙ c.in-Some.is) does c.next.invariant.1

pub next-preserved : goal.next-preserved
next-preserved c =
    let does = subst (λ (e : Event). Applies c.next.world e (Ok c.in_default-apply.field-0) c.apply.new.self) c.delivery.ensures c.in_default-apply.ensures.does in (
      ap (λ (w : WorldView). w.spent) does.2 ∙ c.next.invariant.0,
      left_more c.args.world.now c.next.world c.apply.new.self c.args.most c.next.left (c.next.left - 1) c.in-Some.number c.in_default-apply.field-0 (omega (arith, c.next-test.true))
          (sym c.oldest_undelivered.ensures ∙ c.in-Some.is) does c.next.invariant.1,
    )

pub returns : goal.returns
returns c = left_done c.args.world.now c.next.world c.args.most c.next.left (omega (arith, c.next-test.false)) c.next.invariant.0 c.next.invariant.1
