use Rattle.raft_packed_wire.proofs.Pieces as pieces
use Rattle.raft_packed_wire.proofs.laws.pieces_are_whole.Goals as goal

pub returns : goal.returns
returns g c = pieces.pieces_are_whole g.M.Machine.codec g.M.Machine.left g.M.Machine.fits_left g.met.M.Machine.ends
