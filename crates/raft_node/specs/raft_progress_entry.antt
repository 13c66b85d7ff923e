-- the specifications of raft_progress_entry, passed on
pub use Rattle.raft_progress_entry.specs.Entry
pub use Rattle.raft_progress_entry.specs.Texts
pub use Rattle.raft_progress_entry.specs.declared
