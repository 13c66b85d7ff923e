use Rattle.proof_progress.proofs.LeadersStay.{leaders_vote}
use Rattle.proof_progress.proofs.MembershipsLed.{memberships_led}
use Rattle.proof_progress.proofs.leaders_are_voters.Goals as goal

pub returns-clause-lead : goal.returns-clause-lead
returns-clause-lead c = leaders_vote

pub returns-clause-propose : goal.returns-clause-propose
returns-clause-propose c = memberships_led
