-- the specifications of raft_proposer, passed on
pub use Rattle.raft_proposer.specs.Candidacy
pub use Rattle.raft_proposer.specs.Candidate
pub use Rattle.raft_proposer.specs.Granters
pub use Rattle.raft_proposer.specs.Joint
pub use Rattle.raft_proposer.specs.Leader
pub use Rattle.raft_proposer.specs.Texts
pub use Rattle.raft_proposer.specs.declared
