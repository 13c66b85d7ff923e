-- the specifications of raft_packed, passed on
pub use Rattle.raft_packed.specs.Kept
pub use Rattle.raft_packed.specs.declared
