use Rattle.raft_core.proofs.Told.{clients_are_answered_once}
use Rattle.raft_core.proofs.laws.clients_are_answered_once.Goals as goal

pub returns : goal.returns
returns g c = clients_are_answered_once g.M.Machine.application g.M.Machine.codec
