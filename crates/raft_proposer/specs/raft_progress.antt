-- the specifications of raft_progress, passed on
pub use Rattle.raft_progress.specs.Quorum
pub use Rattle.raft_progress.specs.QuorumLaws
pub use Rattle.raft_progress.specs.Ranking
pub use Rattle.raft_progress.specs.Table
pub use Rattle.raft_progress.specs.TableLaws
pub use Rattle.raft_progress.specs.Updates
