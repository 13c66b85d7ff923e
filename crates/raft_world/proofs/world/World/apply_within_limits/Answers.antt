use Rattle.std.proofs.Common.{◌≡◌, None, subst, sym}
use Rattle.raft_world.specs.Worlds.{WorldView, refusals_of_apply}
use Rattle.raft_world.proofs.Along.{keeps_event, takes_event}
use Rattle.raft_world.proofs.Safe.{is_safe}
use Rattle.raft_node.proofs.Runs.{is_run-with_event}
use Rattle.raft_world.proofs.world.World.apply_within_limits.Goals as goal

pub record_event-done-requires-clause-resting : goal.record_event-done-requires-clause-resting
record_event-done-requires-clause-resting g c =
    takes_event _ c.self.invariant (subst (λ (w : WorldView). refusals_of_apply w ≡ None) (sym c.self.view_is) c.requires)

pub record_event-done-requires-clause-keeps : goal.record_event-done-requires-clause-keeps
record_event-done-requires-clause-keeps g c =
    keeps_event _ c.args.event c.self.invariant (subst (λ (w : WorldView). refusals_of_apply w ≡ None) (sym c.self.view_is) c.requires)

pub invariant_of-self : goal.invariant_of-self
invariant_of-self g c = record { made = c.self.invariant.made; is = λ here. is_run-with_event _ _ _ _ c.args.event c.in-Ok.ensures.history (c.self.invariant.is here) }

pub returns-in-Ok-clause-safe : goal.returns-in-Ok-clause-safe
returns-in-Ok-clause-safe g c = is_safe _ c.self.invariant.made _

pub returns-in-Err-clause-safe : goal.returns-in-Err-clause-safe
returns-in-Err-clause-safe g c = is_safe _ c.self.invariant.made _
