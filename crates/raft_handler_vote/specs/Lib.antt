pub mod raft_handler_leader
pub mod Handlers
