use Rattle.std.proofs.Common.{rules}
use Rattle.raft_engine.proofs.engine.check_grant.Goals as goal

pub returns-then-is_none-clause-passed : goal.returns-then-is_none-clause-passed
returns-then-is_none-clause-passed g c = search rules

pub returns-clause-passed : goal.returns-clause-passed
returns-clause-passed g c = search rules
