use Rattle.std.proofs.Common.{◌∙◌, ap, sym}
use Rattle.std.specs.Prelude.{slice_get}
use Rattle.raft_store.specs.Types.{WorldStore}
use Rattle.raft_recovery.proofs.Judging.{applies, applies_nothing, applies_nowhere}
use Rattle.raft_recovery.proofs.judge.has_applied.Goals as goal

pub returns-in_default : goal.returns-in_default
returns-in_default c = applies_nowhere c.args.world.now.history.net c.args.id c.args.log_id.now (sym c.in_default.ensures)

pub returns-in-None : goal.returns-in-None
returns-in-None c =
    applies_nothing c.args.world.now.history.net c.args.id c.args.log_id.now c.in-Some.node.now (sym c.in-Some.ensures)
    (ap (λ (t : WorldStore). slice_get t.applied c.args.log_id.now.index) (sym c.store.ensures) ∙ (sym c.in_ok-applied_at.ensures ∙ c.in-None.is))

pub returns-in-Some-2 : goal.returns-in-Some-2
returns-in-Some-2 c =
    applies c.args.world.now.history.net c.args.id c.args.log_id.now c.in-Some.node.now c.in-Some-2.entry c.eq.result (sym c.in-Some.ensures)
    (ap (λ (t : WorldStore). slice_get t.applied c.args.log_id.now.index) (sym c.store.ensures) ∙ (sym c.in_ok-applied_at.ensures ∙ c.in-Some-2.is))
    c.eq.ensures
