pub use Rattle.raft_packed.specs.proof_packed_stores
pub mod KeyValue  -- the state machine
pub mod Executor  -- what executing entries makes of it
pub mod Laws  -- what is promised of executing
