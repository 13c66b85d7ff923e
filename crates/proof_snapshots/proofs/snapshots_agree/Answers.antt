use Rattle.proof_snapshots.proofs.Agreed.{agreed}
use Rattle.proof_snapshots.proofs.snapshots_agree.Goals as goal

pub returns : goal.returns
returns c = agreed
