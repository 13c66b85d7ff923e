pub use Rattle.raft_state.proofs as raft_state_proofs
