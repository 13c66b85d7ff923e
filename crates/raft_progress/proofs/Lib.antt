pub use Rattle.raft_state.proofs as raft_state_proofs
pub mod Additions  -- what one row, or one id, more adds to a list that is made of rows or of ids
pub mod GrantedLaws  -- what the granted value is: a voter's that a quorum has reached, with no such value above it
pub mod Insertions  -- a list in order but for one element, while that element moves to its place
pub mod Memberships  -- the ids of a membership's groups are its voters, and its learners come after them
pub mod Rankings  -- what is asked of a ranking finds the granted value, which stays where a value stays on one side of it
