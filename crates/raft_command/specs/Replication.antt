-- What replication sends.
use Rattle.std.specs.Prelude.{ℕ, Bool, true, false, Option, None, Some}
use Rattle.raft_command.specs.declared.replication.RequestId.{RequestId}
use Rattle.raft_command.specs.declared.replication.RequestId.TheVariants as request
use Rattle.raft_command.specs.declared.replication.Data.{Data}
use Rattle.raft_command.specs.declared.replication.Data.TheVariants as sending

-- the number of a request; none for a heartbeat
abbrev pub number_of : RequestId → Option ℕ
number_of request.HeartBeat = None
number_of (request.AppendEntries id) = Some id
number_of (request.Snapshot id) = Some id

module _ {C NID N E D R S : Type 0} where
  -- the id of the request that data is sent under
  abbrev pub request_id : Data C NID N E D R S → RequestId
  request_id sending.Heartbeat = request.HeartBeat
  request_id (sending.Logs logs) = logs.request_id
  request_id (sending.Snapshot snapshot) = snapshot.request_id
  request_id (sending.SnapshotCallback callback) = callback.request_id

  -- there is more than a heartbeat to send
  abbrev pub has_payload : Data C NID N E D R S → Bool
  has_payload sending.Heartbeat = false
  has_payload (sending.Logs _) = true
  has_payload (sending.Snapshot _) = true
  has_payload (sending.SnapshotCallback _) = true
