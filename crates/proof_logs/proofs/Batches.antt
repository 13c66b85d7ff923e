-- The batches of a server's log.
use Rattle.std.specs.Prelude.{List, ◌++◌}
use Rattle.raft_wire.specs.declared.record.Record.{Record}
use Rattle.raft_wire.specs.Records.{logged}
use Rattle.raft_wire.specs.RecordLaws.{logged_is}
use Rattle.proof_logs.specs.Laws.{RecordsStand}
use Rattle.proof_logs.specs.Logs.{AreBatches}
use Rattle.proof_logs.proofs.Records.{batches_join, stand}

pub records_stand : RecordsStand
records_stand payloads records e = stand logged logged_is payloads records e

-- one more batch
pub batches_more : (batches more : List (List Record)) → AreBatches batches → AreBatches more → AreBatches (batches ++ more)
batches_more batches more h k = batches_join logged batches more h k
