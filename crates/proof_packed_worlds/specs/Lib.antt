pub use Rattle.proof_deeds.specs.proof_agreement
pub mod proof_deeds
pub mod Worlds
