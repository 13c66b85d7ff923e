use Rattle.std.proofs.Common.{[], ◌+◌, ◌∷◌, ◌∙◌, ap}
use Rattle.std.proofs.lemmas.Result.{on_ok_weaker}
use Rattle.proof_progress.specs.Plans.{elect}
use Rattle.raft_recovery.specs.Ways.{played}
use Rattle.raft_recovery.proofs.Plays.{goes_all_the_way}
use Rattle.raft_recovery.proofs.search.play_plan.Goals as goal

pub returns : goal.returns
returns c =
    λ learners both.
    let p = c.args.plan.now in
    let b = c.start_planned.new.world in
    on_ok_weaker c.replicate.result
    (goes_all_the_way p.moment p.id c.args.world.now b c.elect.new.world c.replicate.new.world (p.term + 1) p.voters.items learners p.others.items
    (c.args.value.now ∷ []) both c.in_ok-start_planned.ensures
    (c.in_ok-elect.ensures ∙ ap (λ ts. played (elect b.given p.moment p.id (p.term + 1) ts b.history.net) b) c.deref.ensures.value))
    c.replicate.ensures
