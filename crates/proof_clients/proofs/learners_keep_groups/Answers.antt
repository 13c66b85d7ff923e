use Rattle.proof_clients.proofs.LearnersKeep.{learners_keep_groups}
use Rattle.proof_clients.proofs.learners_keep_groups.Goals as goal

pub returns : goal.returns
returns c = learners_keep_groups
