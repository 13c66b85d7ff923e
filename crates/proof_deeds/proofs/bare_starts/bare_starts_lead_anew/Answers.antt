use Rattle.proof_deeds.proofs.BareStarts.{bare_starts_lead_anew}
use Rattle.proof_deeds.proofs.LeadsAnew.{never_lead_on}
use Rattle.proof_deeds.proofs.bare_starts.bare_starts_lead_anew.Goals as goal

pub returns-clause-starts : goal.returns-clause-starts
returns-clause-starts c = bare_starts_lead_anew

pub returns-clause-since : goal.returns-clause-since
returns-clause-since c = never_lead_on
