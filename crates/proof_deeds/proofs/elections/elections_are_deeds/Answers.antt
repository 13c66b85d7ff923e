use Rattle.proof_deeds.proofs.ElectionLaws.{elections_done}
use Rattle.proof_deeds.proofs.elections.elections_are_deeds.Goals as goal

pub returns : goal.returns
returns c = λ first. elections_done first
