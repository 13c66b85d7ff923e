pub mod raft_progress
pub mod Candidacy
pub mod Candidate
pub mod Granters
pub mod Joint
pub mod Leader
pub mod Texts
