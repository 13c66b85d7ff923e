use Rattle.std.proofs.Common.{[], ◌∷◌, ◌∙◌, ap}
use Rattle.std.proofs.lemmas.Result.{on_ok_weaker}
use Rattle.proof_progress.specs.Plans.{bring_all, tell}
use Rattle.raft_recovery.specs.Ways.{played}
use Rattle.raft_recovery.proofs.Plays.{replicates}
use Rattle.raft_recovery.proofs.search.replicate.Goals as goal

pub returns : goal.returns
returns c =
    let p = c.args.plan.now in
    let b = c.propose.new.world in
    let d = c.bring_all.new.world in
    on_ok_weaker c.tell.result
    (λ is.
    replicates p.moment p.id c.args.world.now b d c.tell.new.world (c.args.value.now ∷ []) p.others.items c.in_ok-propose.ensures
    (c.in_ok-bring_all.ensures ∙ ap (λ ts. played (bring_all b.given p.moment p.id ts b.history.net) b) c.deref.ensures.value)
    (is ∙ ap (λ ts. played (tell d.given p.moment p.id ts d.history.net) d) c.deref-2.ensures.value))
    c.tell.ensures
