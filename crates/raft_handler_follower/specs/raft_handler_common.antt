-- the specifications of raft_handler_common, passed on
pub use Rattle.raft_handler_common.specs.Handlers
pub use Rattle.raft_handler_common.specs.declared
