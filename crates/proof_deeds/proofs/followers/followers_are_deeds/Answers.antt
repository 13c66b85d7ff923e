use Rattle.proof_deeds.proofs.FollowerLaws.{followers_done}
use Rattle.proof_deeds.proofs.followers.followers_are_deeds.Goals as goal

pub returns : goal.returns
returns c = λ first. followers_done first
