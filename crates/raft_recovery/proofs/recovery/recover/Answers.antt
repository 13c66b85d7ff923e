use Rattle.raft_recovery.proofs.Missing.{some_recover}
use Rattle.raft_recovery.proofs.recovery.recover.Goals as goal

pub returns-in-None-clause-found : goal.returns-in-None-clause-found
returns-in-None-clause-found c =
    λ h.
    absurd (some_recover c.args.world.now c.args.up.now h c.in_ok-check_premises.ensures.run c.args.value.now
    (c.in_ok-recovery.ensures.none c.in-None.is h.unspent))
