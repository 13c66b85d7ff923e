pub mod Commits  -- what a commit makes of a store
pub mod Committing  -- commits in the queue, and this node's own acknowledgement
pub mod Cuts  -- what a truncation makes of a store
pub mod Elections  -- votes, and new leaders, in the queue
pub mod Ends  -- the last two memberships of a log
pub mod Following  -- what a follower accepts from a leader, in the queue
pub mod Installing  -- what an install makes of a store and of its engine
pub mod MirrorRows  -- computed examples of the mirror: the first run
pub mod Orders  -- logs in order: their parts, and what each command leaves of a store's order
pub mod Places  -- the places of ids with consecutive indexes
pub mod Proposes  -- a leader's proposals, in the queue
pub mod Purges  -- what a purge makes of a store
pub mod Purging  -- purges in the queue, and built snapshots
pub mod Puts  -- what a saved vote and appended entries make of a store
pub mod Queued  -- commands queued after others, and states that differ in parts that a store doesn't have
pub mod Replying  -- how a leader handles replies, in the queue
pub mod RestartRows  -- computed examples of starts
pub mod Restarting  -- starts, and built snapshots: stores that change beside the queue
pub mod Sends  -- what a leader sends is stored
pub mod Shape  -- what the shape of a store and the order of an engine's marks give together
pub mod Sound  -- what the invariants of an engine give
pub mod Starting  -- snapshots of a leader, first entries, and starts, in the queue
