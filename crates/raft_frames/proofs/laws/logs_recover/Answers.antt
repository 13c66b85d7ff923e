use Rattle.raft_frames.proofs.Cuts.{recovers}
use Rattle.raft_frames.proofs.Filled.{recovers_filled}
use Rattle.raft_frames.proofs.laws.logs_recover.Goals as goal

pub returns-clause-cut : goal.returns-clause-cut
returns-clause-cut c = recovers

pub returns-clause-filled : goal.returns-clause-filled
returns-clause-filled c = recovers_filled
