use Rattle.proof_agreement.proofs.StoresExample.{groups_move, snapshot_installed}
use Rattle.proof_agreement.proofs.stores.stores_possible.Goals as goal

pub returns-clause-groups_move : goal.returns-clause-groups_move
returns-clause-groups_move c = groups_move

pub returns-clause-snapshot_installed : goal.returns-clause-snapshot_installed
returns-clause-snapshot_installed c = snapshot_installed
