pub use Rattle.raft_error.specs.raft_state
pub mod raft_error
pub mod Entry
pub mod Texts
