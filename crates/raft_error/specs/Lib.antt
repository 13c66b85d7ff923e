pub mod raft_state
pub mod Number
