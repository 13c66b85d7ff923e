use Rattle.std.proofs.Common.{◌≡◌, ◌∙◌, ◌↔◌, Bool, true, false, not, ap, sym}
use Rattle.std.specs.Prelude.{slice_get}
use Rattle.std.proofs.lemmas.Result.{IfOk-weaker}
use Rattle.raft_calls.specs.Engines.{view_of}
use Rattle.raft_store.specs.declared.entry.Payload.TheVariants as payload
use Rattle.raft_store.specs.Types.{WorldStore}
use Rattle.raft_recovery.specs.Recoveries.{HasExecutedAt}
use Rattle.raft_recovery.proofs.Judging.{absent, executes, executes_nothing, executes_nowhere, executes_stopped, present}
use Rattle.raft_recovery.proofs.judge.has_executed.Goals as goal

pub returns-in_default : goal.returns-in_default
returns-in_default c = executes_nowhere c.args.world.now.history.net c.args.log_id.now c.args.value.now c.args.id (sym c.in_default.ensures)

pub returns-then-is_none : goal.returns-then-is_none
returns-then-is_none c =
    let stopped : c.is_none.result ≡ true = cc in
    let none = absent c.engine.result (c.is_none.ensures ∙ ap not stopped) in
    executes_stopped c.args.world.now.history.net c.args.log_id.now c.args.value.now c.args.id c.in-Some.node.now (sym c.in-Some.ensures)
    (sym (rw none at c.engine.ensures))

pub returns-in-None : goal.returns-in-None
returns-in-None c =
    executes_nothing c.args.world.now.history.net c.args.log_id.now c.args.value.now c.args.id c.in-Some.node.now (sym c.in-Some.ensures)
    (ap (λ (t : WorldStore). slice_get t.applied c.args.log_id.now.index) (sym c.store.ensures) ∙ (sym c.in_ok-applied_at.ensures ∙ c.in-None.is))

pub returns-in-Some-2 : goal.returns-in-Some-2
returns-in-Some-2 c =
    let runs : c.is_none.result ≡ false = cc in
    let engine = present c.engine.result (c.is_none.ensures ∙ ap not runs) in
    IfOk-weaker c.has_value.result (λ (has : Bool). (has ≡ true) ↔ (c.in-Some-2.entry.payload ≡ payload.Value c.args.value.now))
    (λ (has : Bool). (has ≡ true) ↔ HasExecutedAt c.args.world.now.history.net c.args.log_id.now c.args.value.now c.args.id)
    (λ has is.
    executes c.args.world.now.history.net c.args.log_id.now c.args.value.now c.args.id c.in-Some.node.now (view_of engine.0.now) c.in-Some-2.entry
    has (sym c.in-Some.ensures) (sym (rw engine.1 at c.engine.ensures))
    (ap (λ (t : WorldStore). slice_get t.applied c.args.log_id.now.index) (sym c.store.ensures) ∙ (sym c.in_ok-applied_at.ensures ∙ c.in-Some-2.is))
    is)
    c.has_value.ensures
