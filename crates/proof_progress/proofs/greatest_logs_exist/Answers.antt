use Rattle.proof_progress.proofs.TopRuns.{greatest_logs_exist}
use Rattle.proof_progress.proofs.greatest_logs_exist.Goals as goal

pub returns : goal.returns
returns c = greatest_logs_exist
