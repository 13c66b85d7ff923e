pub mod Lists  -- what stands in lists
pub mod Remembered  -- which requests of sessions are remembered
pub mod Steps  -- what an operation makes of the keys and the sessions
pub mod Holding  -- what is remembered of a request that was answered
pub mod Merging  -- the attempts of a request as one operation
pub mod Histories  -- a history of requests is linearizable on the keys alone
pub mod Rows  -- a worked history
