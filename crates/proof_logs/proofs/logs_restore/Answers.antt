use Rattle.proof_logs.proofs.Crashes.{restore, restore_filled}
use Rattle.proof_logs.proofs.logs_restore.Goals as goal

pub returns-clause-cut : goal.returns-clause-cut
returns-clause-cut c = restore

pub returns-clause-filled : goal.returns-clause-filled
returns-clause-filled c = restore_filled
