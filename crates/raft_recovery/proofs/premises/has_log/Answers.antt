use Rattle.std.proofs.Common.{◌∙◌, sym}
use Rattle.raft_recovery.proofs.Electing.{lacks_found, lacks_unfound}
use Rattle.raft_recovery.proofs.premises.has_log.Goals as goal

pub returns-in-None : goal.returns-in-None
returns-in-None c = λ _. lacks_unfound c.args.world.now.given c.args.world.now.history.net c.args.id (sym c.in_ok-found_at.ensures ∙ c.in-None.is)

pub returns-in-Some : goal.returns-in-Some
returns-in-Some c =
    λ e. lacks_found c.args.world.now.given c.args.world.now.history.net c.args.id c.in-Some.found (sym c.in_ok-found_at.ensures ∙ c.in-Some.is)
    (sym c.is_some.ensures ∙ e)
