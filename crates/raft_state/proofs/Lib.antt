pub mod Filtered  -- a filter over the items of one row more
pub mod Groups  -- a group of voters ascends, each id once
pub mod Keeping  -- each call keeps a state's invariants
pub mod LogLists  -- lists of rising log ids with consecutive indexes
pub mod Orders  -- total orders by their tests, and the orders of votes and log ids
pub mod Places  -- the places of ids with consecutive indexes
pub mod Purges  -- what a purge leaves of a log, and what holds of a state after it
pub mod StateLaws  -- what holds of a state's parts after each change of them
pub mod Voters  -- each voter of a new membership is one of its nodes
