use Rattle.proof_agreement.proofs.Example.{groups_move}
use Rattle.proof_agreement.proofs.LowTruncation.{high_truncation_installs}
use Rattle.proof_agreement.proofs.machine.runs_possible.Goals as goal

pub returns-clause-groups_move : goal.returns-clause-groups_move
returns-clause-groups_move c = groups_move

pub returns-clause-snapshot_installs : goal.returns-clause-snapshot_installs
returns-clause-snapshot_installs c = high_truncation_installs
