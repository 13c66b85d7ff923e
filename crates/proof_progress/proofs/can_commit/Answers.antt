use Rattle.proof_progress.proofs.AloneGoes.{alone_goes_on}
use Rattle.proof_progress.proofs.ChangesGo.{changed_commit, plans_go_on}
use Rattle.proof_progress.proofs.MajoritiesGo.{majorities_commit}
use Rattle.proof_progress.proofs.ProposersGo.{proposers_commit}
use Rattle.proof_progress.proofs.WaysOn.{cluster_goes_on}
use Rattle.proof_progress.proofs.can_commit.Goals as goal

pub returns-clause-others : goal.returns-clause-others
returns-clause-others c = cluster_goes_on

pub returns-clause-alone : goal.returns-clause-alone
returns-clause-alone c = alone_goes_on

pub returns-clause-kept : goal.returns-clause-kept
returns-clause-kept c = majorities_commit

pub returns-clause-changed : goal.returns-clause-changed
returns-clause-changed c = changed_commit

pub returns-clause-proposers : goal.returns-clause-proposers
returns-clause-proposers c = proposers_commit

pub returns-clause-planned : goal.returns-clause-planned
returns-clause-planned c = plans_go_on
