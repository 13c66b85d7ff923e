use Rattle.raft_connection.proofs.AnsweredOnce.{answered_once, stays_answered}
use Rattle.raft_connection.proofs.laws.answered_once.Goals as goal

pub returns-clause-at_once : goal.returns-clause-at_once
returns-clause-at_once c = answered_once

pub returns-clause-later : goal.returns-clause-later
returns-clause-later c = stays_answered
