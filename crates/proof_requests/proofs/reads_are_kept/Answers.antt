use Rattle.proof_requests.proofs.ReadsKept.{reads_are_kept}
use Rattle.proof_requests.proofs.reads_are_kept.Goals as goal

pub returns : goal.returns
returns g c = reads_are_kept g.M.Machine.application g.M.Machine.codec
