use Rattle.proof_requests.proofs.Promises.{requests_are_kept}
use Rattle.proof_requests.proofs.requests_are_kept.Goals as goal

pub returns : goal.returns
returns g c = requests_are_kept g.M.Machine.application g.M.Machine.codec g.met.M.Machine.is_codec
