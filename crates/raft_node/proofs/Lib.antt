pub use Rattle.raft_state.proofs as raft_state_proofs
pub use Rattle.raft_error.proofs as raft_error_proofs
pub use Rattle.raft_progress_entry.proofs as raft_progress_entry_proofs
pub use Rattle.raft_progress.proofs as raft_progress_proofs
pub use Rattle.raft_command.proofs as raft_command_proofs
pub use Rattle.raft_steps.proofs.raft_proposer_proofs as raft_proposer_proofs
pub use Rattle.raft_steps.proofs as raft_steps_proofs
pub use Rattle.raft_store.proofs as raft_store_proofs
pub use Rattle.raft_schedule.proofs as raft_schedule_proofs
pub use Rattle.raft_calls.proofs as raft_calls_proofs
pub mod Along  -- what calls keep, along the equations that they ensure
pub mod Falls  -- each executed command, with what its feed queues, leaves less to do
pub mod InTurn  -- stores, replies and conditions are in turn in each run
pub mod InTurnEvents  -- an event changes nothing and has no commands, or its node executes its commands after the event's calls
pub mod InTurnQueue  -- what each reply of a queue waits for is done before it
pub mod InTurnReplies  -- only a `Respond` sends replies, at its turn
mod InTurnRows  -- a vote is stored before its reply is sent, and a snapshot installed before its reply: worked runs, computed
pub mod InTurnStarts  -- where a node's queue is empty, an event's calls leave a queue in which each reply stands behind what it waits for
pub mod InTurnSteps  -- what a command changes at its turn: the store as the store's own definition says, and the bag by what it sends
pub mod Ready  -- a node's engine stays ready, at each event and each command
pub mod Keeping  -- that records may keep whole logs, along a node's commands
pub mod Recorded  -- records keep the longest log of each leader, and so all its shorter ones
pub mod Runs  -- a run with one more event
pub mod UntilLaws  -- laws of steps until one is done
pub mod Watched  -- a watch has seen all commands of a node at work, in their order
pub mod Worked  -- how a queue is executed
pub mod StartReady  -- an engine on a node's store is ready to start
mod MembershipRows  -- computed examples of memberships and reads: a leader of one voter has node 2 learn, and answers a read
mod SnapshotRows  -- a worked run, computed: one voter commits two values, builds a snapshot of all, and keeps the last two entries of it
