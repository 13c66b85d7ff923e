use Rattle.raft_chunks.proofs.Forms.{reads_back, reads_what_is_there}
use Rattle.raft_chunks.proofs.laws.chunks_read_back.Goals as goal

pub returns-clause-back : goal.returns-clause-back
returns-clause-back c = reads_back

pub returns-clause-spelled : goal.returns-clause-spelled
returns-clause-spelled c = reads_what_is_there
