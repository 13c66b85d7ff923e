use Rattle.std.proofs.Common.{inl, inr, refl}
use Rattle.proof_requests.specs.raft_core.Calls.{Receives}
use Rattle.raft_cluster.specs.Calls.{ByCore, Never}
use Rattle.raft_cluster.proofs.Cores.{refusing}
use Rattle.raft_cluster.proofs.machine.Machine.receive.Goals as goal

pub returns-in-Ok-clause-does : goal.returns-in-Ok-clause-does
returns-in-Ok-clause-does g c =
    inr (inr (record { core = c.in-Some.core; is_open = c.in-Some.is; next = c.receive.new.self; does = c.in-Ok.ensures.ok; becomes = refl }))

pub returns-in-Err-clause-does : goal.returns-in-Err-clause-does
returns-in-Err-clause-does g c =
    refusing c.args.self.now c.refuse.new.self c.in-Some.core c.receive.new.self c.refuse.result c.in-Some.is (ByCore (Receives g.M.Machine.application g.M.Machine.codec c.args.bytes.now)) c.in-Err.error c.in-Err.ensures.err c.refuse.ensures

pub returns-in-Err-clause-refused : goal.returns-in-Err-clause-refused
returns-in-Err-clause-refused g c = λ refused.
    refusing c.args.self.now c.refuse.new.self c.in-Some.core c.receive.new.self c.refuse.result c.in-Some.is Never c.in-Err.error c.in-Err.ensures.err c.refuse.ensures

pub returns-in_default-clause-does : goal.returns-in_default-clause-does
returns-in_default-clause-does g c = inl (c.quiet.ensures.outputs, refl)
