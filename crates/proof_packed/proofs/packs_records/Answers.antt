use Rattle.proof_packed.proofs.Records.{records_kept}
use Rattle.proof_packed.proofs.packs_records.Goals as goal

pub returns : goal.returns
returns c s = λ app keep given act event scene r h o. records_kept app keep given act event scene r h o
