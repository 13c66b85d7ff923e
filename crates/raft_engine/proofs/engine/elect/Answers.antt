use Rattle.std.proofs.Common.{rules}
use Rattle.raft_engine.proofs.engine.elect.Goals as goal

pub update_vote-requires-clause-log : goal.update_vote-requires-clause-log
update_vote-requires-clause-log g c = search rules
