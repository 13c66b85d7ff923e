use Rattle.raft_packed_wire.proofs.MessageLaws.{are_read_back}
use Rattle.raft_packed_wire.proofs.laws.records_are_read_back.Goals as goal

pub returns : goal.returns
returns g c = are_read_back g.M.Machine.codec g.met.M.Machine.is_codec
