use Rattle.raft_packed_server.proofs.Crashed.{opens_after_cuts, opens_after_zeros}
use Rattle.raft_packed_server.proofs.laws.opens_after_a_crash.Goals as goal

pub returns : goal.returns
returns g c =
    let app = g.M.Machine.application in
    let codec = g.M.Machine.codec in
    record { cut = opens_after_cuts app codec g.met.M.Machine.is_codec; filled = opens_after_zeros app codec g.met.M.Machine.is_codec }
