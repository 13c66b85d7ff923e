-- the specifications of raft_calls, passed on
pub use Rattle.raft_calls.specs.Deliveries
pub use Rattle.raft_calls.specs.Elections
pub use Rattle.raft_calls.specs.Engines
pub use Rattle.raft_calls.specs.Feeds
pub use Rattle.raft_calls.specs.Held
pub use Rattle.raft_calls.specs.Inboxes
pub use Rattle.raft_calls.specs.LeaderCalls
pub use Rattle.raft_calls.specs.Memberships
pub use Rattle.raft_calls.specs.Refusal
pub use Rattle.raft_calls.specs.Snapshots
pub use Rattle.raft_calls.specs.Starts
pub use Rattle.raft_calls.specs.Trust
pub use Rattle.raft_calls.specs.Weights
pub use Rattle.raft_calls.specs.declared
