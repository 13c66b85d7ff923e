use Rattle.std.proofs.Common.{[], inl, inr, refl}
use Rattle.proof_requests.specs.Actions.{Initializes}
use Rattle.raft_cluster.specs.Calls.{ByCore}
use Rattle.raft_cluster.proofs.Cores.{stops_by}
use Rattle.raft_cluster.proofs.machine.Machine.initialize.Goals as goal

pub returns-in-Ok-clause-does : goal.returns-in-Ok-clause-does
returns-in-Ok-clause-does g c =
    inr (inr (record { core = c.in-Some.core; is_open = c.in-Some.is; next = c.initialize.new.self; does = (refl, c.in-Ok.ensures); becomes = refl }))

pub returns-in-Err-clause-does : goal.returns-in-Err-clause-does
returns-in-Err-clause-does g c = stops_by (ByCore (Initializes g.M.Machine.application)) c.args.self.now c.close.new.self [] c.close.ensures refl

pub returns-in_default-clause-does : goal.returns-in_default-clause-does
returns-in_default-clause-does g c = inl (refl, refl)
