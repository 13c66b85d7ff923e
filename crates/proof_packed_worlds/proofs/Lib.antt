pub use Rattle.proof_deeds.proofs.proof_agreement_proofs as proof_agreement_proofs
pub use Rattle.proof_deeds.proofs as proof_deeds_proofs
pub mod Worlds  -- runs of packed nodes
-- Worked runs
mod Rows  -- a build, a start, an install
