pub mod Requests  -- what stands at the front of a client's bytes
pub mod Reading  -- what the readers answer
pub mod Written  -- how requests are written, and that they are read
pub mod Replies  -- how replies are written
