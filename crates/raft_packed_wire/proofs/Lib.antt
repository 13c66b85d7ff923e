pub use Rattle.raft_packed_node.proofs as raft_packed_node_proofs
pub mod ValueLaws
pub mod RecordLaws
pub mod MessageLaws
pub mod Replays
pub mod Standing
mod Steps
pub mod Ordered
pub mod Checkpoints
pub mod Pieces
