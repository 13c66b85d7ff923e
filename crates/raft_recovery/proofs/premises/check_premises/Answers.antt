use Rattle.raft_recovery.proofs.Missing.{all_nodes, some_electable, some_log}
use Rattle.raft_recovery.proofs.premises.check_premises.Goals as goal

pub returns-in-Some-stranger-clause-found : goal.returns-in-Some-stranger-clause-found
returns-in-Some-stranger-clause-found c =
    λ h. all_nodes c.args.world.now c.args.up.now h c.in-Some-stranger.id c.in-Some-stranger.ensures

pub returns-then-not-have_log-clause-found : goal.returns-then-not-have_log-clause-found
returns-then-not-have_log-clause-found c =
    λ h. some_log c.args.world.now c.args.up.now h c.given.ensures.run (c.in_ok-have_log.ensures c.if-not-have_log.true)

pub returns-else-can_elect-clause-found : goal.returns-else-can_elect-clause-found
returns-else-can_elect-clause-found c =
    λ h. some_electable c.args.world.now c.args.up.now h c.given.ensures.run (c.in_ok-can_elect.ensures c.if-can_elect.false)
