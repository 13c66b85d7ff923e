use Rattle.std.proofs.Common.{rules}
use Rattle.raft_engine.proofs.engine.take_grant.Goals as goal

pub lead_by_votes-requires-clause-log : goal.lead_by_votes-requires-clause-log
lead_by_votes-requires-clause-log g c = search rules
