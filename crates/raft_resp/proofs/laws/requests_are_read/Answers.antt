use Rattle.raft_resp.proofs.Again.{are_read}
use Rattle.raft_resp.proofs.laws.requests_are_read.Goals as goal

pub returns : goal.returns
returns c = are_read
