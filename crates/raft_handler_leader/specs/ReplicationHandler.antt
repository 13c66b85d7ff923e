-- What a target is sent if there is nothing else to send.
use Rattle.std.specs.Prelude.{Bool, true, false}
use Rattle.raft_handler_leader.specs.declared.replication_handler.SendNone.{SendNone}
use Rattle.raft_handler_leader.specs.declared.replication_handler.SendNone.TheVariants as send_none

-- whether a heartbeat is sent if there is nothing else
abbrev pub forces : SendNone → Bool
forces send_none.True = true
forces send_none.False = false
