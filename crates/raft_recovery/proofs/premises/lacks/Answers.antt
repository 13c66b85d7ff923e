use Rattle.std.proofs.Common.{◌∙◌, sym}
use Rattle.raft_recovery.proofs.Judging.{lacks_there}
use Rattle.raft_recovery.proofs.premises.lacks.Goals as goal

pub returns-in-Some : goal.returns-in-Some
returns-in-Some c =
    λ e n at.
    lacks_there c.args.world.now.given c.args.world.now.history.net n c.args.id c.args.found.now c.in-Some.behind at
    (sym c.in_ok-found_at.ensures ∙ c.in-Some.is) (sym c.is_above.ensures ∙ e)
