pub use Rattle.raft_core.specs.proof_logs
pub use Rattle.raft_core.specs.proof_packed_servers
pub use Rattle.raft_core.specs.raft_packed_server
pub mod proof_answers
pub mod raft_core
pub mod Entries  -- the entries of values that are proposed together
pub mod OnDisk  -- the node of the steps that are on disk
pub mod Requests  -- requests of a server's clients beside the actions of the model
pub mod Answered  -- when an answer is true
pub mod Reading  -- reads that need no entry
pub mod Moving  -- snapshots that go out and come in parts
pub mod Frames  -- frames that leave servers
pub mod Actions  -- which actions of the model a call takes
pub mod Laws  -- what is promised of each call
pub mod ReadLaws  -- what is promised of reads, call by call
pub mod Clients  -- servers with their clients, and what is promised of what they are told
