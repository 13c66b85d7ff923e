use Rattle.proof_requests.proofs.Promises.{stay_beside}
use Rattle.proof_requests.proofs.clients_stay_beside.Goals as goal

pub returns : goal.returns
returns g c = stay_beside g.M.Machine.application g.M.Machine.codec g.met.M.Machine.is_codec
