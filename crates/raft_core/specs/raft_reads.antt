-- the specifications of raft_reads, passed on
pub use Rattle.raft_reads.specs.Reads
pub use Rattle.raft_reads.specs.declared
