use Rattle.proof_packed.proofs.Played.{played_kept}
use Rattle.proof_packed.proofs.packs_events.Goals as goal

pub returns : goal.returns
returns c s = λ app keep given act event scene. played_kept app keep given act event scene
