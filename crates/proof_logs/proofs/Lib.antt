-- In reading order
pub mod Records  -- records in bytes, and back
pub mod Files  -- files of bytes, and what is kept of them
pub mod Cuts  -- what a crash leaves of a log's file
pub mod Batches  -- the batches of a server's log
pub mod Crashes  -- what a crash leaves of a server's log
pub mod Runs  -- servers with files are servers
pub mod FilesTold  -- so what has left them agrees
