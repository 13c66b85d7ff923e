-- the specifications of proof_agreement, passed on
pub use Rattle.proof_agreement.specs.Deeds
pub use Rattle.proof_agreement.specs.Example
pub use Rattle.proof_agreement.specs.FixedGroups
pub use Rattle.proof_agreement.specs.HastyMembership
pub use Rattle.proof_agreement.specs.LeaderNumbers
pub use Rattle.proof_agreement.specs.LowTruncation
pub use Rattle.proof_agreement.specs.Machine
pub use Rattle.proof_agreement.specs.MachineLaws
pub use Rattle.proof_agreement.specs.Stores
pub use Rattle.proof_agreement.specs.StoresExample
pub use Rattle.proof_agreement.specs.StoresLaws
