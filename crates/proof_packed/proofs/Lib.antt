pub use Rattle.proof_packed_stores.proofs as proof_packed_stores_proofs
pub use Rattle.raft_node.proofs.raft_state_proofs as raft_state_proofs
pub use Rattle.raft_node.proofs.raft_command_proofs as raft_command_proofs
pub use Rattle.raft_node.proofs.raft_steps_proofs as raft_steps_proofs
pub use Rattle.raft_node.proofs.raft_store_proofs as raft_store_proofs
pub use Rattle.raft_node.proofs.raft_schedule_proofs as raft_schedule_proofs
pub use Rattle.raft_node.proofs.raft_calls_proofs as raft_calls_proofs
pub use Rattle.raft_node.proofs as raft_node_proofs
pub use Rattle.proof_mirror.proofs as proof_mirror_proofs
-- In reading order
pub mod Nodes  -- what a command makes of a packed node
pub mod Calls  -- no call but an install queues an install
pub mod Installs  -- an engine doesn't read a snapshot's data
pub mod Works  -- a packed node at work
pub mod Events  -- the calls of an event at a packed node
pub mod Played  -- the whole event
pub mod Records  -- what an event at a packed node leaves on disk
