pub mod raft_packed
pub mod proof_packed
pub use Rattle.raft_packed.specs.proof_packed_stores
pub mod Builds
pub mod Effects
pub mod Held
pub mod Starts
