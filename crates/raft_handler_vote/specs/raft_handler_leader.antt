-- the specifications of raft_handler_leader, passed on
pub use Rattle.raft_handler_leader.specs.Handlers
pub use Rattle.raft_handler_leader.specs.ReplicationHandler
pub use Rattle.raft_handler_leader.specs.declared
