pub use Rattle.raft_error.proofs.raft_state_proofs as raft_state_proofs
