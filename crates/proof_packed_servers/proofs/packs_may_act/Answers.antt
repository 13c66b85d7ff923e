use Rattle.proof_packed_servers.proofs.MayAct.{runs_may}
use Rattle.proof_packed_servers.proofs.packs_may_act.Goals as goal

pub returns : goal.returns
returns c s = λ app given wf actions may. runs_may app given wf actions may
