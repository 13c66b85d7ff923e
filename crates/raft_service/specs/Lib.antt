pub use Rattle.raft_core.specs.raft_packed_server
pub mod raft_core
pub mod Plans  -- what requests put into the log
pub mod Core  -- the server behind it
pub mod Intake  -- requests on their way into the log
pub mod Serving  -- clients are served
pub mod Delivering  -- what outputs of the server come to
pub mod Calls  -- what each call does
pub mod Laws  -- what is promised of a service
