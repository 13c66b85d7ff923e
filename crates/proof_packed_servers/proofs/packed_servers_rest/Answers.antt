use Rattle.proof_packed_servers.proofs.Resting.{servers_rest}
use Rattle.proof_packed_servers.proofs.packed_servers_rest.Goals as goal

pub returns : goal.returns
returns c s = λ app given wf actions may id member. servers_rest app given wf actions may id member
