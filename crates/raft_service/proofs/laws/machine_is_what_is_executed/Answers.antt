use Rattle.raft_service.proofs.Machines.{machine}
use Rattle.raft_service.proofs.laws.machine_is_what_is_executed.Goals as goal

pub returns : goal.returns
returns c = machine
