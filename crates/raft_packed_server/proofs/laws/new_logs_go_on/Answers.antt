use Rattle.raft_packed_server.proofs.Renewed.{new_logs_are_given_up, new_logs_go_on, new_logs_take_over}
use Rattle.raft_packed_server.proofs.laws.new_logs_go_on.Goals as goal

pub returns : goal.returns
returns g c =
    let app = g.M.Machine.application in
    let codec = g.M.Machine.codec in
    record {
      begun = new_logs_go_on app codec;
      take_over = new_logs_take_over app codec;
      given_up = new_logs_are_given_up app codec;
    }
