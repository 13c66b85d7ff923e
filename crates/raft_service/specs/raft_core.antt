-- the specifications of raft_core, passed on
pub use Rattle.raft_core.specs.raft_peers
pub use Rattle.raft_core.specs.raft_reads
pub use Rattle.raft_core.specs.Views
pub use Rattle.raft_core.specs.Steps
pub use Rattle.raft_core.specs.Outputs
pub use Rattle.raft_core.specs.Calls
pub use Rattle.raft_core.specs.Laws
pub use Rattle.raft_core.specs.declared
