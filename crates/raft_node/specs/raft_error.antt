-- the specifications of raft_error, passed on
pub use Rattle.raft_error.specs.Number
pub use Rattle.raft_error.specs.declared
