use Rattle.std.proofs.Common.{rules}
use Rattle.raft_engine.proofs.engine.check_reply.Goals as goal

pub returns-in-None-clause-passed : goal.returns-in-None-clause-passed
returns-in-None-clause-passed g c = search rules
