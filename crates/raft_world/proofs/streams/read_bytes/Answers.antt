use Rattle.raft_world.proofs.Moved.{takes_all}
use Rattle.raft_world.proofs.streams.read_bytes.Goals as goal

pub returns-in-Ok-read_all-clause-bytes : goal.returns-in-Ok-read_all-clause-bytes
returns-in-Ok-read_all-clause-bytes g c = let read = c.in-Ok-read_all.ensures in takes_all _ _ _ _ c.new-bytes.ensures.items read.taken read.end
