use Rattle.proof_progress.proofs.VotersStand.{candidates_vote}
use Rattle.proof_progress.proofs.candidates_are_voters.Goals as goal

pub returns : goal.returns
returns c = candidates_vote
