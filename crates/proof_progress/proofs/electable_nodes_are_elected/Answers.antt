use Rattle.proof_progress.proofs.Electable.{electable_lead}
use Rattle.proof_progress.proofs.electable_nodes_are_elected.Goals as goal

pub returns : goal.returns
returns c = electable_lead
