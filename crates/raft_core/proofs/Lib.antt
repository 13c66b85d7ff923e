pub use Rattle.raft_peers.proofs as raft_peers_proofs
pub use Rattle.raft_reads.proofs as raft_reads_proofs
pub use Rattle.raft_peers.proofs.raft_packed_server_proofs as raft_packed_server_proofs
pub use Rattle.raft_peers.proofs.proof_logs_proofs as proof_logs_proofs
pub use Rattle.raft_peers.proofs.proof_packed_servers_proofs as proof_packed_servers_proofs
pub use Rattle.raft_peers.proofs.raft_packed_wire_proofs as raft_packed_wire_proofs
pub mod Stepped
pub mod Released
pub mod Told
pub mod Unsaid
pub mod ReadsTold
pub mod Assembled
pub mod Begun
pub mod Copied
