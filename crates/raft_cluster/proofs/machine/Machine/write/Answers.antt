use Rattle.std.proofs.Common.{inl, refl}
use Rattle.raft_cluster.specs.Calls.{ByWrite}
use Rattle.raft_cluster.proofs.Cores.{handed_out, stops_by}
use Rattle.raft_cluster.proofs.machine.Machine.write.Goals as goal

pub returns-in-Ok-clause-does : goal.returns-in-Ok-clause-does
returns-in-Ok-clause-does g c =
    handed_out g.M.Machine.application g.M.Machine.codec c.args.self.now c.hand_out.new.self c.in-Some.core c.write.new.self c.in-Ok.outputs.items c.hand_out.result c.in-Some.is c.in-Ok.ensures
    c.hand_out.ensures.outputs c.hand_out.ensures.handed

pub returns-in-Err-clause-does : goal.returns-in-Err-clause-does
returns-in-Err-clause-does g c = stops_by (ByWrite g.M.Machine.application g.M.Machine.codec) c.args.self.now c.close.new.self _ c.close.ensures c.quiet-in-Err.ensures.outputs

pub returns-in_default-clause-does : goal.returns-in_default-clause-does
returns-in_default-clause-does g c = inl (c.quiet.ensures.outputs, refl)
