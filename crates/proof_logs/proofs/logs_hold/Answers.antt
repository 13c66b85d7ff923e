use Rattle.proof_logs.proofs.Batches.{records_stand}
use Rattle.proof_logs.proofs.Crashes.{logs_read_back}
use Rattle.proof_logs.proofs.logs_hold.Goals as goal

pub returns-clause-back : goal.returns-clause-back
returns-clause-back c = logs_read_back

pub returns-clause-stand : goal.returns-clause-stand
returns-clause-stand c = records_stand
