pub mod Along  -- what calls keep, along the equations that they ensure
pub mod Falls  -- what a command feeds back queues less than the command weighs
pub mod Fed  -- what is fed back after entries are stored, step by step
pub mod Follows  -- an append's commands store entries that the log then has, though it was cut before
pub mod Grows  -- a call's commands store entries that the engine's log has
pub mod Queues  -- what calls queue, but for an install
pub mod InTurnCalls  -- no call but an install queues a reply that waits
pub mod InTurnInstalls  -- the reply to an install that is queued stands behind the install that it waits for
pub mod InTurnStarts  -- where an engine's queue is empty, a call leaves a queue in which each reply stands behind what it waits for
pub mod Ready  -- engines stay ready: between commands they are sound, and their logs have what is yet to be stored
pub mod Indexed  -- the kept numbers go on with the messages
pub mod Refused  -- a leader's call that its engine refuses
pub mod Stored  -- what queued commands store
mod Trusted  -- the tests of a start's state decide whether it is sound
pub mod LeaderReady  -- a leader's calls at an event leave its engine ready
pub mod SnapshotReady  -- calls for snapshots and purges leave an engine ready
pub mod StartReady  -- a start leaves an engine ready
