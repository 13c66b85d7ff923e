use Rattle.proof_packed_stores.proofs.Stores.{packs_stores}
use Rattle.proof_packed_stores.proofs.packs_stores.Goals as goal

pub returns : goal.returns
returns c s = packs_stores
