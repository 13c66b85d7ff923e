use Rattle.std.proofs.Common.{◌∙◌, [], ◌∷◌, ◌++◌, map, ap, sym, append_assoc}
use Rattle.std.proofs.lemmas.List.{map-append}
use Rattle.raft_node.specs.declared.record.Executed.{Executed}
use Rattle.raft_core.specs.Outputs.{executed_out, executed_outputs, settled_all}
use Rattle.raft_answers.specs.Answers.{settled}
use Rattle.raft_answers.specs.Requests.{Open}
use Rattle.raft_core.proofs.Released.{executed_more, settled_more}
use Rattle.raft_core.proofs.release.execute_all.Goals as goal

pub loop-one-preserved : goal.loop-one-preserved
loop-one-preserved g c =
    let before = map (λ (x : Executed). x.entry) c.loop-one.yielded in
    let e = c.in-Some.one.entry in
    let first = c.args.requests.now in
    let initial = c.args.outputs.now.items in
    let all = map-append (λ (x : Executed). x.entry) c.loop-one.yielded (c.in-Some.one ∷ []) in
    record {
      left = c.in_ok-execute.ensures.left
          ∙ (ap (settled e.log_id) c.loop-one.invariant.left ∙ (sym (settled_more before e first) ∙ ap (λ es. settled_all es first) (sym all)));
      outputs =
          c.in_ok-execute.ensures.outputs
          ∙ (ap (λ out. out ++ executed_out e c.loop-one.requests.proposed) c.loop-one.invariant.outputs
          ∙ (append_assoc initial (executed_outputs before first.proposed) (executed_out e c.loop-one.requests.proposed)
          ∙ (ap (λ (o : Open). initial ++ (executed_outputs before first.proposed ++ executed_out e o.proposed)) c.loop-one.invariant.left
          ∙ ap (λ out. initial ++ out) (sym (executed_more before e first) ∙ ap (λ es. executed_outputs es first.proposed) (sym all)))));
    }
