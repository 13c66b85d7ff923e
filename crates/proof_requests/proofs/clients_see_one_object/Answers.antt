use Rattle.proof_requests.proofs.Promises.{cores_see_one}
use Rattle.proof_requests.proofs.clients_see_one_object.Goals as goal

pub returns : goal.returns
returns g c = cores_see_one g.M.Machine.application g.M.Machine.codec
