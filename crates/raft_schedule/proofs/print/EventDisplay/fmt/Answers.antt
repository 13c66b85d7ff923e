use Rattle.std.proofs.Common.{sym}
use Rattle.std.proofs.Output.{has_written_of_eq}
use Rattle.raft_schedule.proofs.Texts.{event_said}
use Rattle.raft_schedule.proofs.print.EventDisplay.fmt.Goals as goal

pub returns-clause-writes : goal.returns-clause-writes
returns-clause-writes g c p ok = has_written_of_eq _ _ _ _ _ (sym (event_said c.args.self.now)) (c.write.ensures.writes p ok)
