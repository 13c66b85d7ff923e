pub mod Waiting  -- which action took the step that comes on disk
pub mod Answers  -- what clients ask servers for, and are told
pub mod Reads  -- reads by the rule
pub mod Histories  -- histories of clients of servers
pub mod Laws  -- what is promised of them
