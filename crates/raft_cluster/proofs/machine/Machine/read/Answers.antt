use Rattle.std.proofs.Common.{refl}
use Rattle.raft_cluster.proofs.Cores.{unchanged}
use Rattle.raft_cluster.proofs.machine.Machine.read.Goals as goal

pub returns-in-Ok-clause-requests : goal.returns-in-Ok-clause-requests
returns-in-Ok-clause-requests g c = record { core = c.in-Some.core; is_open = c.in-Some.is; next = c.read.new.self; admits = c.in-Ok.ensures.ok; becomes = refl }

pub returns-in-Err-clause-requests : goal.returns-in-Err-clause-requests
returns-in-Err-clause-requests g c = unchanged c.args.self.now c.in-Some.core c.read.new.self c.in-Some.is c.in-Err.ensures.err
