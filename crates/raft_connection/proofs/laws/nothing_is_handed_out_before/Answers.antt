use Rattle.raft_connection.proofs.Authenticated.{nothing_before}
use Rattle.raft_connection.proofs.laws.nothing_is_handed_out_before.Goals as goal

pub returns : goal.returns
returns c = nothing_before
