use Rattle.proof_progress.proofs.AllCatchUp.{worlds_all_match}
use Rattle.proof_progress.proofs.CatchesUp.{worlds_match}
use Rattle.proof_progress.proofs.followers_catch_up.Goals as goal

pub returns-clause-one : goal.returns-clause-one
returns-clause-one c = worlds_match

pub returns-clause-all : goal.returns-clause-all
returns-clause-all c = worlds_all_match
