-- A value for a caller.
use Rattle.raft_command.specs.declared.message.Token.{Token}

-- the value, and the token that names the caller
pub record Sender (T : Type 0) : Type 0 where
  pub value : T
  pub token : Token
