-- the specifications of raft_command, passed on
pub use Rattle.raft_command.specs.Config
pub use Rattle.raft_command.specs.Ends
pub use Rattle.raft_command.specs.Equality
pub use Rattle.raft_command.specs.EqualityLaws
pub use Rattle.raft_command.specs.Iter
pub use Rattle.raft_command.specs.Kind
pub use Rattle.raft_command.specs.Message
pub use Rattle.raft_command.specs.Push
pub use Rattle.raft_command.specs.Queue
pub use Rattle.raft_command.specs.Replication
pub use Rattle.raft_command.specs.Reply
pub use Rattle.raft_command.specs.Sender
pub use Rattle.raft_command.specs.Texts
pub use Rattle.raft_command.specs.declared
