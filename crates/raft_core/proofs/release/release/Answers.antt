use Rattle.std.proofs.Common.{◌++◌}
use Rattle.std.proofs.lemmas.Result.{err_from_is_err_and}
use Rattle.raft_core.proofs.Released.{all_left, all_outputs, all_sent, two_behind}
use Rattle.raft_core.proofs.release.release.Goals as goal

pub returns-clause-left : goal.returns-clause-left
returns-clause-left g c =
    all_left c.args.said _ _ _ _ c.batch.view_is c.rest.view_is c.said.view_is c.args.requests.now c.execute_all.new.requests
    c.execute_all-2.new.requests c.in_ok-execute_all.ensures.left c.in_ok-execute_all-2.ensures.left

pub returns-clause-outputs : goal.returns-clause-outputs
returns-clause-outputs g c =
    let first = c.in_ok-send_all.ensures in
    let second = c.in_ok-send_all-2.ensures in
    let behind = c.in_ok-prepare_some.ensures in (
      first.0 ++ (second.0 ++ behind.0),
      all_sent c.args.said _ _ _ _ c.batch.view_is c.rest.view_is c.said.view_is g.M.Machine.application g.M.Machine.codec
          c.args.sender.start c.args.preparing.now.items c.send_all.new.preparing.items c.send_all-2.new.preparing.items
          c.prepare_some.new.preparing.items c.args.going.now.items c.prepare_some.new.outgoing.items first.0 second.0 behind.0 first.1 second.1
          behind.1,
      all_outputs c.args.said _ _ _ _ c.batch.view_is c.rest.view_is c.said.view_is first.0 (second.0 ++ behind.0) c.args.requests.now
          c.execute_all.new.requests c.new-outputs.result.items c.send_all.new.outputs.items c.prepare_some.new.outputs.items
          c.install_all.new.outputs.items c.install_all-2.new.outputs.items c.execute_all.new.outputs.items c.execute_all-2.new.outputs.items
          c.in_ok-execute_all.ensures.left c.new-outputs.ensures.items first.2
          (two_behind c.send_all.new.outputs.items c.send_all-2.new.outputs.items c.prepare_some.new.outputs.items second.0 behind.0 second.2
          behind.2)
          c.in_ok-install_all.ensures c.in_ok-install_all-2.ensures c.in_ok-execute_all.ensures.outputs c.in_ok-execute_all-2.ensures.outputs,
    )

pub returns-in_err-install_all-2-clause-left : goal.returns-in_err-install_all-2-clause-left
returns-in_err-install_all-2-clause-left g c =
    rw (err_from_is_err_and c.from_residual-in_err-install_all-2.result c.from_residual-in_err-install_all-2.ensures.1).1 tt

pub returns-in_err-execute_all-clause-left : goal.returns-in_err-execute_all-clause-left
returns-in_err-execute_all-clause-left g c =
    rw (err_from_is_err_and c.from_residual-in_err-execute_all.result c.from_residual-in_err-execute_all.ensures.1).1 tt
