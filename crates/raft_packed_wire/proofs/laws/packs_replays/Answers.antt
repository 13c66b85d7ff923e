use Rattle.raft_packed_wire.proofs.Replays.{packs_replays}
use Rattle.raft_packed_wire.proofs.laws.packs_replays.Goals as goal

pub returns : goal.returns
returns c s = packs_replays
