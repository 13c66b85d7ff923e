-- the specifications of raft_packed_server, passed on
pub use Rattle.raft_packed_server.specs.Encoded
pub use Rattle.raft_packed_server.specs.Began
pub use Rattle.raft_packed_server.specs.Logs
pub use Rattle.raft_packed_server.specs.Views
pub use Rattle.raft_packed_server.specs.Represents
pub use Rattle.raft_packed_server.specs.Recovery
pub use Rattle.raft_packed_server.specs.Laws
pub use Rattle.raft_packed_server.specs.Fits
pub use Rattle.raft_packed_server.specs.Checkpoints
pub use Rattle.raft_packed_server.specs.declared
