pub mod Secrets  -- bytes that differ nowhere are the same
pub mod Options  -- options of HELLO, one after the other
pub mod Leaving  -- answers that leave, one after the other
pub mod Ordered  -- replies leave in the order of requests
pub mod Taken  -- a request that is answered waits no more, also once answers were taken
pub mod AnsweredOnce  -- a request is answered once
pub mod Numbered  -- a request that is handed out waits, by its number
pub mod Authenticated  -- nothing is handed out before a client has authenticated itself
pub mod Pieces  -- what comes of what is received doesn't depend on the pieces in which it comes
pub mod Counted  -- how many requests wait for their answers, after what changes a connection
pub mod Waiting  -- how many bytes the answers have that are there
