use Rattle.raft_machine.proofs.Iterations.{none_missed, cursors_rise}
use Rattle.raft_machine.proofs.laws.scans_miss_no_key.Goals as goal

pub returns : goal.returns
returns c = record { each = none_missed; behind = cursors_rise }
