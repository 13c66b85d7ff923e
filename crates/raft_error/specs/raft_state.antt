-- the specifications of raft_state, passed on
pub use Rattle.raft_state.specs.Consecutive
pub use Rattle.raft_state.specs.Fits
pub use Rattle.raft_state.specs.IdEquality
pub use Rattle.raft_state.specs.Invariants
pub use Rattle.raft_state.specs.Kept
pub use Rattle.raft_state.specs.Log
pub use Rattle.raft_state.specs.LogLaws
pub use Rattle.raft_state.specs.Members
pub use Rattle.raft_state.specs.Order
pub use Rattle.raft_state.specs.Policy
pub use Rattle.raft_state.specs.Same
pub use Rattle.raft_state.specs.Sorted
pub use Rattle.raft_state.specs.State
pub use Rattle.raft_state.specs.Texts
pub use Rattle.raft_state.specs.declared
