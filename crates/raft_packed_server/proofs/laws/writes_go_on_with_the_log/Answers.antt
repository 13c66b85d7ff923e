use Rattle.raft_packed_server.proofs.Logged.{writes_log, writes_next_log}
use Rattle.raft_packed_server.proofs.laws.writes_go_on_with_the_log.Goals as goal

pub returns : goal.returns
returns g c =
    let app = g.M.Machine.application in
    let codec = g.M.Machine.codec in
    record { log = writes_log app codec; next = writes_next_log app codec }
