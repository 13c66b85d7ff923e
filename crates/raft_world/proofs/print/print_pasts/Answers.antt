use Rattle.std.proofs.Common.{◌+◌, ◌++◌, ◌≡◌, ◌∙◌, ap, arith, refl, rules, subst, sym, take}
use Rattle.std.proofs.KnownBytes.{Appends-nil, Appends-trans}
use Rattle.std.specs.Io.KnownBytes.{Appends}
use Rattle.raft_schedule.specs.declared.event.AppliedEvent.{AppliedEvent}
use Rattle.raft_world.specs.Printed.{past_text, pasts_text}
use Rattle.raft_world.proofs.Lines.{pasts_more}
use Rattle.raft_world.proofs.print.print_pasts.Goals as goal

pub loop-past-init : goal.loop-past-init
loop-past-init g c = (Appends-nil _, refl)

pub loop-past-preserved : goal.loop-past-preserved
loop-past-preserved g c =
    let more : pasts_text c.args.language 0 (take (c.loop-past.past-index + 1) c.args.pasts.now) ≡ pasts_text c.args.language 0 (take c.loop-past.past-index c.args.pasts.now) ++ past_text c.args.language c.saturating_add-number.result c.past-item.result =
    pasts_more c.args.language c.args.pasts.now c.loop-past.past-index c.saturating_add-number.result c.past-item.result c.loop-past-test.true (omega (arith, c.loop-past.invariant.1, c.loop-past-test.true))
    ∙ ap (λ (past : AppliedEvent). pasts_text c.args.language 0 (take c.loop-past.past-index c.args.pasts.now) ++ past_text c.args.language c.saturating_add-number.result past) (sym c.past-item.is) in
    (subst (Appends _ _) (sym more) (Appends-trans _ _ _ _ _ c.loop-past.invariant.0 c.in_ok-print_past.ensures), search rules)
