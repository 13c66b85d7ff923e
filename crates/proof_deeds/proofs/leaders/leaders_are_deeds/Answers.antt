use Rattle.proof_deeds.proofs.LeaderLaws.{leaders_done}
use Rattle.proof_deeds.proofs.leaders.leaders_are_deeds.Goals as goal

pub returns : goal.returns
returns c = λ first. leaders_done first
