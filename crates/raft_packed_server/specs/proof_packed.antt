-- the specifications of proof_packed, passed on
pub use Rattle.proof_packed.specs.Data
pub use Rattle.proof_packed.specs.Stores
pub use Rattle.proof_packed.specs.Nodes
pub use Rattle.proof_packed.specs.Laws
pub use Rattle.proof_packed.specs.Records
