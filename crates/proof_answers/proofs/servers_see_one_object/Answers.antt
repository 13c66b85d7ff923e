use Rattle.proof_answers.proofs.Linear.{see_one}
use Rattle.proof_answers.proofs.servers_see_one_object.Goals as goal

pub returns : goal.returns
returns g c = see_one
