use Rattle.proof_progress.proofs.Heard.{worlds_elect}
use Rattle.proof_progress.proofs.Choosing.{choices_exist}
use Rattle.proof_progress.proofs.KeptChoices.{kept_worlds_lead, worlds_choose}
use Rattle.proof_progress.proofs.choices_are_elected.Goals as goal

pub returns-clause-elected : goal.returns-clause-elected
returns-clause-elected c = worlds_elect

pub returns-clause-exist : goal.returns-clause-exist
returns-clause-exist c = choices_exist

pub returns-clause-kept : goal.returns-clause-kept
returns-clause-kept c = worlds_choose

pub returns-clause-lead : goal.returns-clause-lead
returns-clause-lead c = kept_worlds_lead
