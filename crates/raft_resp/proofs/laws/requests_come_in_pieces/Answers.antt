use Rattle.raft_resp.proofs.Pieces.{come_in_pieces}
use Rattle.raft_resp.proofs.laws.requests_come_in_pieces.Goals as goal

pub returns : goal.returns
returns c = come_in_pieces
