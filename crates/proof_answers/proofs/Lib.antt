-- In reading order
pub mod Prefixes  -- the first actions of some, and which of their steps wait
pub mod Traces  -- servers follow a world, each event of which is a step that an action took
pub mod Moments  -- at its moments the node is what the server's is within the step
pub mod Outputs  -- what a step executes was applied within it
pub mod Came  -- what clients asked for and were told, in that world
pub mod Origins  -- what a step sends, and when
pub mod Heard  -- who replies to requests that were sent after a read stores no later vote
pub mod Rule  -- a read by the rule has all that was told before
pub mod Places  -- queries in a sequence of updates
pub mod Linear  -- histories of clients of servers are linearizable
-- Worked runs
pub mod Rows  -- an answer, and none after a crash
pub mod ReadRows  -- reads by the rule
