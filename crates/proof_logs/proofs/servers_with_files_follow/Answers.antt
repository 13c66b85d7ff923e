use Rattle.proof_logs.proofs.FilesTold.{files_agree}
use Rattle.proof_logs.proofs.Runs.{files_follow, files_open}
use Rattle.proof_logs.proofs.servers_with_files_follow.Goals as goal

pub returns-clause-follow : goal.returns-clause-follow
returns-clause-follow c = files_follow

pub returns-clause-agree : goal.returns-clause-agree
returns-clause-agree c = files_agree

pub returns-clause-open : goal.returns-clause-open
returns-clause-open c = files_open
