-- the specifications of raft_packed_node, passed on
pub use Rattle.raft_packed_node.specs.Builds
pub use Rattle.raft_packed_node.specs.Effects
pub use Rattle.raft_packed_node.specs.Held
pub use Rattle.raft_packed_node.specs.Starts
pub use Rattle.raft_packed_node.specs.declared
