use Rattle.std.proofs.Common.{◌∙◌, ap}
use Rattle.std.proofs.lemmas.Result.{on_ok_weaker}
use Rattle.proof_progress.specs.Plans.{starts}
use Rattle.raft_recovery.specs.Ways.{played}
use Rattle.raft_recovery.proofs.Plays.{starts_first}
use Rattle.raft_recovery.proofs.search.start_planned.Goals as goal

pub returns : goal.returns
returns c =
    on_ok_weaker c.start_all.result
    (λ is.
    starts_first c.args.world.now c.start.new.world c.start_all.new.world c.args.plan.now.id c.args.plan.now.others.items c.in_ok-start.ensures
    (is ∙ ap (λ ts. played (starts ts) c.start.new.world) c.deref.ensures.value))
    c.start_all.ensures
