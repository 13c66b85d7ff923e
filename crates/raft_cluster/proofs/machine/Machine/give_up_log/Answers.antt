use Rattle.std.proofs.Common.{inr, refl}
use Rattle.raft_cluster.proofs.machine.Machine.give_up_log.Goals as goal

pub returns-clause-does : goal.returns-clause-does
returns-clause-does g c =
    inr (inr (record { core = c.in-Some.core; is_open = c.in-Some.is; next = c.give_up_log.new.self; does = (refl, c.give_up_log.ensures); becomes = refl }))
