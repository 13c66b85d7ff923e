pub mod Stored  -- what copies of a store's entries have
pub mod Starts  -- what a bare start finds
pub mod Played  -- worlds after events, and after plans
pub mod Plays  -- what is played step by step is the plan
pub mod Nodes  -- the nodes of a world by their ids
pub mod Electing  -- which nodes can be elected
pub mod Judging  -- what the judge looks at
pub mod Planned  -- the nodes of a plan
pub mod Trying  -- what is played behind a copy, and when nothing is found
pub mod Skips  -- skipped events change nothing
pub mod Gone  -- nodes that recover have gone on
pub mod Recovering  -- nodes that go on by the plan recover
pub mod Missing  -- where nodes can go on no premise lacks
pub mod Simulations  -- what a simulation writes and answers
pub mod Texts  -- the texts of errors
pub mod Tasks  -- what is answered for words
