pub mod Words  -- what requests' words spell
pub mod OwnCommands  -- the commands that a connection answers itself
pub mod Session  -- a session that begins
pub mod Refusals  -- the texts of errors
pub mod Responses  -- what a connection answers itself, as bytes
pub mod Stops  -- what functions answer that may stop
pub mod Hello  -- the words of HELLO
pub mod Handshake  -- HELLO, AUTH, CLIENT, RESET and QUIT
pub mod OwnReplies  -- PING, ECHO, SELECT, COMMAND and CONFIG
pub mod Transactions  -- MULTI, EXEC, DISCARD and WATCH
pub mod Once  -- ONCE
pub mod Run  -- what a request comes to
pub mod HashSlot  -- the slot of a key
pub mod Keys  -- the slot of a request
pub mod Pending  -- the requests that wait
pub mod Answers  -- answers as bytes
pub mod Reading  -- requests at the front of what was received
pub mod Connection  -- a connection
pub mod Laws  -- what is promised of connections
