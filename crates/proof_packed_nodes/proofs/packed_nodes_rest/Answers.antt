use Rattle.proof_packed_nodes.proofs.Resting.{all_rest}
use Rattle.proof_packed_nodes.proofs.packed_nodes_rest.Goals as goal

pub returns : goal.returns
returns c s = λ app given wf es. all_rest app given wf es
