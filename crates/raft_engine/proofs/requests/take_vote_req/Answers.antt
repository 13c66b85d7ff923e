use Rattle.std.proofs.Common.{rules}
use Rattle.raft_engine.proofs.requests.take_vote_req.Goals as goal

pub update_vote-requires-clause-log : goal.update_vote-requires-clause-log
update_vote-requires-clause-log g c = search rules

pub returns-clause-step : goal.returns-clause-step
returns-clause-step g c = search rules
