use Rattle.raft_cluster.proofs.Cores.{unchanged}
use Rattle.raft_cluster.proofs.machine.Machine.change_members.Goals as goal

pub returns-in-Ok-clause-stays : goal.returns-in-Ok-clause-stays
returns-in-Ok-clause-stays g c = unchanged c.args.self.now c.in-Some.core c.change_members.new.self c.in-Some.is c.change_members.ensures

pub returns-in-Err-clause-stays : goal.returns-in-Err-clause-stays
returns-in-Err-clause-stays g c = unchanged c.args.self.now c.in-Some.core c.change_members.new.self c.in-Some.is c.change_members.ensures
