use Rattle.proof_packed_worlds.proofs.Worlds.{world_kept}
use Rattle.proof_packed_worlds.proofs.packs_worlds.Goals as goal

pub returns : goal.returns
returns c s = λ app given wf es. world_kept app given wf es
