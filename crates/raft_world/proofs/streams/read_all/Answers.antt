use Rattle.raft_world.proofs.Moved.{reads_on}
use Rattle.raft_world.proofs.streams.read_all.Goals as goal

pub returns-in-Err-clause-reads : goal.returns-in-Err-clause-reads
returns-in-Err-clause-reads g c = reads_on _ _ _ _ c.more.invariant.1 c.in-Err.ensures.reads
