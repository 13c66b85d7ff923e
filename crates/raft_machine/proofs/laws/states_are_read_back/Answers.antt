use Rattle.raft_machine.specs.BytesLaws.{state_is}
use Rattle.raft_machine.proofs.laws.states_are_read_back.Goals as goal

pub returns : goal.returns
returns c = state_is
