use Rattle.std.proofs.Common.{ℕ, ◌≡◌, ◌∙◌, ap, subst, Err, IfOk, Option}
use Rattle.raft_command.specs.declared.replication.RequestId.{RequestId}
use Rattle.raft_steps.specs.Replies.{update_progress}
use Rattle.raft_store.specs.Types.{EngineView}
use Rattle.raft_calls.specs.Deliveries.{progressed}
use Rattle.raft_calls.specs.Engines.{view_of}
use Rattle.raft_calls.specs.LeaderCalls.{inflight_to, request_of}
use Rattle.raft_calls.specs.Refusal.{refusal_of}
use Rattle.raft_calls.proofs.Refused.{progress_ended}
use Rattle.raft_calls.proofs.lead.fail.Goals as goal

pub returns : goal.returns
unfolding update_progress
returns c =
    let e : EngineView = view_of c.args.engine.now in
    let new : EngineView = view_of c.update_progress.new.self in
    let id : c.request_of-request.result ≡ request_of (inflight_to c.args.target e) = c.request_of-request.ensures ∙ ap request_of c.inflight_to.ensures in
    rw c.refusal_of.ensures
    (subst (λ (i : RequestId). IfOk (refusal_of c.update_progress.result) (λ refusal. ◌≡◌ {A = Option ℕ × EngineView} (refusal, new) (progressed c.args.target i (Err tt) e))) id
    (progress_ended c.args.target c.request_of-request.result (Err tt) e new c.update_progress.result c.update_progress.ensures.step c.update_progress.ensures.config c.update_progress.ensures.flag))
