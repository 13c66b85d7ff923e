use Rattle.proof_sessions.proofs.Holding.{repeats}
use Rattle.proof_sessions.proofs.repeats_change_nothing.Goals as goal

pub returns : goal.returns
returns c = repeats
