pub use Rattle.raft_packed.proofs.proof_packed_stores_proofs as proof_packed_stores_proofs
-- In reading order
pub use Rattle.proof_packed.proofs as proof_packed_proofs
pub mod Noted  -- what is noted for a snapshot, by what is kept of it but its state
pub mod Queued  -- the next command of an engine
pub mod Falls  -- each executed command, with what its feed queues, leaves less to do
pub mod Worked  -- how a queue is executed
pub mod Watched  -- a watch has seen all commands of a node at work, in their order
pub mod Built  -- the end of a build leaves an engine ready
pub mod Ready  -- a node's engine stays ready, at each event and each command
pub mod Along  -- what calls keep, along the equations that they ensure
pub mod Turns  -- an event by its turn and the calls that were made
