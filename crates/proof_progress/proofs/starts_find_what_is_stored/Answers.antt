use Rattle.proof_progress.proofs.FoundEnd.{starts_find_stored}
use Rattle.proof_progress.proofs.starts_find_what_is_stored.Goals as goal

pub returns : goal.returns
returns c = starts_find_stored
