use Rattle.raft_resp.proofs.Pieces.{come_in_pieces}
use Rattle.raft_connection.proofs.Pieces.{take_pieces}
use Rattle.raft_connection.proofs.laws.steps_take_pieces.Goals as goal

pub returns : goal.returns
returns c = take_pieces come_in_pieces
