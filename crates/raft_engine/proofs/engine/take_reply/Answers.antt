use Rattle.std.proofs.Common.{rules}
use Rattle.raft_engine.proofs.engine.take_reply.Goals as goal

pub take_counted-requires-clause-passed : goal.take_counted-requires-clause-passed
take_counted-requires-clause-passed g c = search rules

pub take_counted-requires-clause-end : goal.take_counted-requires-clause-end
take_counted-requires-clause-end g c = search rules
