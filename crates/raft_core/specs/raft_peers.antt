-- the specifications of raft_peers, passed on
pub use Rattle.raft_peers.specs.Parts
pub use Rattle.raft_peers.specs.Frames
pub use Rattle.raft_peers.specs.Sends
pub use Rattle.raft_peers.specs.declared
