pub use Rattle.raft_packed_server.proofs as raft_packed_server_proofs
pub use Rattle.raft_packed_server.proofs.proof_logs_proofs as proof_logs_proofs
pub use Rattle.raft_packed_server.proofs.proof_packed_servers_proofs as proof_packed_servers_proofs
pub use Rattle.raft_packed_server.proofs.raft_packed_wire_proofs as raft_packed_wire_proofs
pub mod Among
pub mod Parting
pub mod Preparing
pub mod Sending
pub mod Sent
