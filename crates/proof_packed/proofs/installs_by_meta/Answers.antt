use Rattle.proof_packed.proofs.Installs.{installs_by_meta}
use Rattle.proof_packed.proofs.installs_by_meta.Goals as goal

pub returns : goal.returns
returns c = installs_by_meta
