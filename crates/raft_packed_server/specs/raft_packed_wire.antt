-- the specifications of raft_packed_wire, passed on
pub use Rattle.raft_packed_wire.specs.Values
pub use Rattle.raft_packed_wire.specs.Records
pub use Rattle.raft_packed_wire.specs.Named
pub use Rattle.raft_packed_wire.specs.Messages
pub use Rattle.raft_packed_wire.specs.Laws
pub use Rattle.raft_packed_wire.specs.Checkpoints
pub use Rattle.raft_packed_wire.specs.Pieces
pub use Rattle.raft_packed_wire.specs.raft_packed
pub use Rattle.raft_packed_wire.specs.declared
