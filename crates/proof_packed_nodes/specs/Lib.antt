pub mod raft_packed_node
pub mod Laws
