-- the specifications of raft_node, passed on
pub use Rattle.raft_node.specs.Chosen
pub use Rattle.raft_node.specs.Commands
pub use Rattle.raft_node.specs.Events
pub use Rattle.raft_node.specs.Execute
pub use Rattle.raft_node.specs.Held
pub use Rattle.raft_node.specs.InTurn
pub use Rattle.raft_node.specs.Kept
pub use Rattle.raft_node.specs.MayKeep
pub use Rattle.raft_node.specs.Net
pub use Rattle.raft_node.specs.Runs
pub use Rattle.raft_node.specs.Safety
pub use Rattle.raft_node.specs.Snapshots
pub use Rattle.raft_node.specs.Starts
pub use Rattle.raft_node.specs.Until
pub use Rattle.raft_node.specs.WellFormed
pub use Rattle.raft_node.specs.Work
pub use Rattle.raft_node.specs.declared
