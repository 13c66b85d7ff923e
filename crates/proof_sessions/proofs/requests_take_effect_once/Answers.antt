use Rattle.proof_sessions.proofs.Histories.{requests_once}
use Rattle.proof_sessions.proofs.requests_take_effect_once.Goals as goal

pub returns : goal.returns
returns c = requests_once
