-- the specifications of raft_store, passed on
pub use Rattle.raft_store.specs.Built
pub use Rattle.raft_store.specs.Entries
pub use Rattle.raft_store.specs.LeaderLogs
pub use Rattle.raft_store.specs.Mirror
pub use Rattle.raft_store.specs.Restart
pub use Rattle.raft_store.specs.Ring
pub use Rattle.raft_store.specs.Starting
pub use Rattle.raft_store.specs.Store
pub use Rattle.raft_store.specs.Types
pub use Rattle.raft_store.specs.Values
pub use Rattle.raft_store.specs.declared
