use Rattle.proof_progress.proofs.AloneCommits.{worlds_commit_alone}
use Rattle.proof_progress.proofs.Executes.{worlds_execute}
use Rattle.proof_progress.proofs.ProposalCommits.{worlds_commit}
use Rattle.proof_progress.proofs.ProposalEvents.{worlds_propose}
use Rattle.proof_progress.proofs.leaders_commit.Goals as goal

pub returns-clause-propose : goal.returns-clause-propose
returns-clause-propose c = worlds_propose

pub returns-clause-commit : goal.returns-clause-commit
returns-clause-commit c = worlds_commit

pub returns-clause-execute : goal.returns-clause-execute
returns-clause-execute c = worlds_execute

pub returns-clause-alone : goal.returns-clause-alone
returns-clause-alone c = worlds_commit_alone
