-- In reading order
pub use Rattle.proof_logs.proofs as proof_logs_proofs
pub use Rattle.proof_packed_servers.proofs as proof_packed_servers_proofs
pub use Rattle.raft_packed_wire.proofs as raft_packed_wire_proofs
pub mod Kept  -- values in bytes are seen as those values
mod Coded  -- records and changes are read back
mod Replayed  -- what a log's records make
pub mod Stored  -- what a step makes of a store is what its record says
pub mod Ordered  -- the entries of a store stay in order
pub mod Waiting  -- a server stands for one of the model
pub mod Prepared  -- a node that is prepared for a step does in it what it would have done
pub mod Seen  -- what a step's calls make of the store is seen as that
mod Steps  -- so a step of the code is one of the model
pub mod Logged  -- what is handed out makes the model's file
mod Opening  -- a server that is opened
pub mod Crashed  -- what a crash leaves is opened
pub mod Renewed  -- a server goes on with a new log
