-- In reading order
pub use Rattle.proof_answers.proofs as proof_answers_proofs
pub use Rattle.raft_core.proofs as raft_core_proofs
pub use Rattle.raft_core.proofs.raft_peers_proofs as raft_peers_proofs
pub use Rattle.raft_core.proofs.proof_logs_proofs as proof_logs_proofs
pub use Rattle.raft_core.proofs.proof_packed_servers_proofs as proof_packed_servers_proofs
pub use Rattle.raft_core.proofs.raft_packed_server_proofs as raft_packed_server_proofs
pub mod Lists  -- lists of which each element goes with that at its place
pub mod More  -- what was so after some actions is so after more
pub mod Kept  -- what was so of requests is so after more actions
pub mod Packs  -- packed servers do what the model's do
pub mod Left  -- what has left servers stays so
pub mod Steps  -- a step that proposes values
pub mod ReadSteps  -- what a step that reads does, and whose quorum it asks for
pub mod HandedOut  -- what a step executes stands behind what was applied
pub mod Waits  -- which action took each step that waits, and that they come on disk in their order
pub mod Turns  -- the steps that wait go on from the node of those that are on disk
pub mod Told  -- what leaves by flushes was told of, no earlier than it was proposed
pub mod Handed  -- as many entries are handed out as the state machine had taken
pub mod RuleReads  -- reads by the rule
pub mod Reading  -- when a read by the rule is done, and that it returns
pub mod Silent  -- which steps answer, and whose answers wait
pub mod Closing  -- answers to the first requests
pub mod Batches  -- a batch of requests, and its values
pub mod Moved  -- snapshots that go out and come in parts
pub mod Sent  -- frames that leave servers
pub mod Calls  -- each call keeps requests beside the model
pub mod Writes  -- so does a write, by which requests are proposed
pub mod ReadCalls  -- reads after more actions, and their answers
pub mod ReadsKept  -- each call keeps reads beside the model
pub mod Queues  -- what is open once the first have their answers
pub mod MovedCalls  -- what each call does with parts
pub mod Others  -- other servers are as they were
pub mod Beside  -- and so do servers with their clients
pub mod NewLogs  -- also as a new log begins, takes the old one's place, or is given up
pub mod Histories  -- what clients asked and were told is a history
pub mod Promises  -- the laws
-- Worked rows
mod Rows  -- answers that are true, and that are not
mod ThreeRows  -- three servers: a write, crashes, and a read by the rule
