pub mod proof_packed_stores
pub mod raft_frames
pub mod Kept
pub mod Encodings
pub mod Whole
