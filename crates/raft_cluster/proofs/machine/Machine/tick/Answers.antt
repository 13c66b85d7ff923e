use Rattle.std.proofs.Common.{inl, inr, refl}
use Rattle.proof_requests.specs.raft_core.Calls.{Ticks}
use Rattle.raft_cluster.specs.Calls.{ByCore}
use Rattle.raft_cluster.proofs.Cores.{stops_by}
use Rattle.raft_cluster.proofs.machine.Machine.tick.Goals as goal

pub returns-in-Ok-clause-does : goal.returns-in-Ok-clause-does
returns-in-Ok-clause-does g c =
    inr (inr (record { core = c.in-Some.core; is_open = c.in-Some.is; next = c.tick.new.self; does = c.in-Ok.ensures.ticks; becomes = refl }))

pub returns-in-Err-clause-does : goal.returns-in-Err-clause-does
returns-in-Err-clause-does g c = stops_by (ByCore (Ticks g.M.Machine.application)) c.args.self.now c.close.new.self _ c.close.ensures c.quiet-in-Err.ensures.outputs

pub returns-in_default-clause-does : goal.returns-in_default-clause-does
returns-in_default-clause-does g c = inl (c.quiet.ensures.outputs, refl)
