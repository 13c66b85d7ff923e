use Rattle.std.proofs.Common.{◌∙◌}
use Rattle.raft_machine.proofs.Recalled.{sessions_written}
use Rattle.raft_machine.proofs.sessions.write_sessions.Goals as goal

pub returns : goal.returns
returns c = sessions_written c.args.cache.now _ _ _ _ _ _ _ (c.get.ensures.value ∙ c.cap.ensures) c.len.ensures.len c.len.ensures.valid c.in_ok-write_number.ensures c.in_ok-write_number-2.ensures c.write_each.ensures
