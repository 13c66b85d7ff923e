use Rattle.std.proofs.Common.{subst}
use Rattle.raft_machine.specs.Space.{Space, AreLater}
use Rattle.raft_machine.proofs.keyspace.Keyspace.len.Goals as goal

pub returns-clause-live : goal.returns-clause-live
returns-clause-live c = subst (λ (s : Space). AreLater s.map s.moment) c.self.view_is c.self.invariant.later
