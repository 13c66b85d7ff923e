use Rattle.raft_schedule.proofs.Written.{reads_written, reads_schedules}
use Rattle.raft_schedule.proofs.laws.written_schedules_are_read.Goals as goal

pub returns-clause-statements : goal.returns-clause-statements
returns-clause-statements c = reads_written

pub returns-clause-schedules : goal.returns-clause-schedules
returns-clause-schedules c = reads_schedules
