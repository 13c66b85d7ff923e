pub mod raft_handler_common
pub mod Handlers
