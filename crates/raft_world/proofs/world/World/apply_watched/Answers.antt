use Rattle.raft_world.proofs.Safe.{is_safe}
use Rattle.raft_world.proofs.world.World.apply_watched.Goals as goal

pub returns-in-Some-clause-safe : goal.returns-in-Some-clause-safe
returns-in-Some-clause-safe g c = is_safe _ c.refusals_of_apply.ensures.made _
