use Rattle.std.proofs.Common.{[], ◌+◌, ◌∷◌, ◌++◌, ◌∙◌, sym}
use Rattle.std.proofs.lemmas.Result.{on_ok_weaker}
use Rattle.proof_progress.specs.Plans.{way_on}
use Rattle.proof_progress.specs.GoneByPlan.{other_learners}
use Rattle.raft_recovery.specs.Ways.{played}
use Rattle.raft_recovery.proofs.search.go_on.Goals as goal

pub returns : goal.returns
returns c =
    let a = c.args.world.now in
    let p = c.in_ok-plan.plan in
    let s = c.in_ok-plan.ensures in
    let learners = other_learners c.args.found.now.membership c.args.up.now c.args.id in
    on_ok_weaker c.play_plan.result
    (λ is.
    is
    ∙ (λ i. played (way_on a.given (s.moment i) (s.id i) (s.term i + 1) (s.voters i) learners (c.args.value.now ∷ []) a.history.net) a))
    (c.play_plan.ensures learners (s.others ∙ (λ i. sym s.voters i ++ learners)))
