use Rattle.proof_deeds.proofs.SnapshotsDone.{snapshots_done}
use Rattle.proof_deeds.proofs.snapshots.snapshots_are_deeds.Goals as goal

pub returns : goal.returns
returns c = λ first. snapshots_done first
