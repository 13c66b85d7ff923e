-- the specifications of proof_packed_stores, passed on
pub use Rattle.proof_packed_stores.specs.Stores
pub use Rattle.proof_packed_stores.specs.Laws
